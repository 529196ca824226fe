pub mod Printed
pub mod CallFile
pub mod Row
pub mod Examples
