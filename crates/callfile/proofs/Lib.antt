pub mod Rows
pub mod Lines
pub mod Answers
pub mod Going
pub mod Whole
pub mod Determined
pub mod Examples
