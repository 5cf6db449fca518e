pub mod Assignments
pub mod Passes
