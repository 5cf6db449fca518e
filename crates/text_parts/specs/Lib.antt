pub mod Around
pub mod Built
pub mod Extents
pub mod Numbered
pub mod Operands
pub mod Small
pub mod Weight
