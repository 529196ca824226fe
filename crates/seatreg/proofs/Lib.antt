pub mod Bits
pub mod AnswerBytes
pub mod Entry
pub mod Keeping
pub mod History
pub mod TakingBack
