pub mod Building
pub mod Counting
pub mod Inspections
