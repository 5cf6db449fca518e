pub mod Intervals
pub mod Known
pub mod Names
pub mod Scopes
