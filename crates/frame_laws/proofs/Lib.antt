pub mod Lookups
pub mod Made
pub mod Outputs
pub mod Readings
pub mod Same
