pub mod Counts
pub mod Known
pub mod Repeats
pub mod Places
