pub mod LinkBytes
pub mod Ready
pub mod ChainWays
