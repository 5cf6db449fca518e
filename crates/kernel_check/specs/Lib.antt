pub mod Conditions
pub mod Excesses
pub mod Items
pub mod Judging
pub mod Kernels
pub mod Scans
