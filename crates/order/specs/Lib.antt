pub mod Items
pub mod Listed
pub mod OrderOn
