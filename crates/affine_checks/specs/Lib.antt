pub mod Demands
pub mod Linear
pub mod Shown
