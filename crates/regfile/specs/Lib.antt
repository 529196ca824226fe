pub mod FileText
pub mod Faults
pub mod Parsed
pub mod Examples
