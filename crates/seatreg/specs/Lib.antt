pub mod Answers
pub mod Entry
pub mod Kept
pub mod History
pub mod TakeBack
