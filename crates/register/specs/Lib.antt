pub mod CallOn
pub mod Answer
pub mod Made
pub mod Cuts
pub mod Bring
