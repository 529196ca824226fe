pub mod Text
pub mod Read
pub mod Write
pub mod Bytes
pub mod Examples
pub mod Rows
