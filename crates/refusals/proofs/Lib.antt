pub mod InLimits
pub mod EarlyTests
pub mod First
pub mod Joining
pub mod Holding
pub mod CutHolding
