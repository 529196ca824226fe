pub mod Layout
pub mod Bytes
pub mod Block
pub mod Records
pub mod WellFormed
pub mod Pass
pub mod Fits
pub mod Older
