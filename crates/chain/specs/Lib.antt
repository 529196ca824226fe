pub mod Links
pub mod Answer
pub mod ChainOn
pub mod Lent
