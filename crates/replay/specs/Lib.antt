pub mod Replay
pub mod Turn
