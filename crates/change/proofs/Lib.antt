pub mod Splice
pub mod Rewrite
pub mod Changing
pub mod Filling
pub mod Storing
pub mod Writing
pub mod Leaving
pub mod Bringing
