pub mod Built
pub mod Heads
pub mod Samples
