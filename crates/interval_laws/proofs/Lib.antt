pub mod Products
pub mod Intervals
pub mod Parameters
