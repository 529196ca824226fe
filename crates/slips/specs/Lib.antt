pub mod Slip
pub mod TakeBack
