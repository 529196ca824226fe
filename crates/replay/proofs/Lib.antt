pub mod Calling
pub mod Texts
pub mod Sizes
pub mod Slots
pub mod Turns
