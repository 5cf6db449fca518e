pub mod Builds
pub mod Dimensions
pub mod Fronts
pub mod IndexWords
