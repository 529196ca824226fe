pub mod FileRight
pub mod Storing
pub mod Rowing
pub mod Parsing
pub mod Writing
pub mod Sizes
pub mod Examples
