pub mod OrderWays
