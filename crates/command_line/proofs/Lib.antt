pub mod Both
pub mod Counts
pub mod Modes
pub mod Numbers
pub mod Parses
pub mod Ranges
pub mod Takes
pub mod Values
