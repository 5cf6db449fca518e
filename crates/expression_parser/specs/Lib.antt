pub mod Outcome
pub mod Two
pub mod Terminals
