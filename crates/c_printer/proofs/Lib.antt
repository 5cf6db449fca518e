pub mod Powers
pub mod Writes
pub mod Befores
