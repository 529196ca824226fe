pub mod Equal
pub mod Parts
pub mod SlipWays
