pub mod Counting
pub mod Indexing
pub mod Merging
pub mod Settling
