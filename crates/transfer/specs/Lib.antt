pub mod Filled
pub mod FileOn
pub mod RoundTrip
pub mod Examples
