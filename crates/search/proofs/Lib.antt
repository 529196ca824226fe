pub mod Choosing
pub mod Fill
pub mod State
pub mod Whole
pub mod Midway
pub mod Listing
pub mod Searching
pub mod Sharing
