pub mod Filling
pub mod Lowering
pub mod Rounding
