pub mod History
pub mod Exactly
pub mod Examples
pub mod Kept
pub mod Retired
pub mod Kinds
pub mod TakeBack
pub mod SlipExample
