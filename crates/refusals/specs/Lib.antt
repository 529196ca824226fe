pub mod Early
pub mod Checked
