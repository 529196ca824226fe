pub mod Right
pub mod Lines
pub mod Entries
pub mod Making
pub mod Whole
