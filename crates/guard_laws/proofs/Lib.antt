pub mod Determined
pub mod Begun
pub mod SourceEnds
pub mod Uninspected
pub mod Guarded
