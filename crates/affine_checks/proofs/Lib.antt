pub mod Rows
pub mod Terms
pub mod Found
pub mod Ends
