pub mod Writing
pub mod Reading
pub mod Faults
pub mod ReadWays
pub mod RoundTrip
pub mod Examples
