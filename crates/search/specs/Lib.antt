pub mod Search
pub mod Turns
pub mod Found
pub mod Named
