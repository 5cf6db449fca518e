pub mod Demos
pub mod Generator
pub mod Kernels
pub mod Summaries
