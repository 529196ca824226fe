pub mod TableText
pub mod Lent
pub mod Read
