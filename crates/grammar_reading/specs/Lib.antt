pub mod Reading
pub mod Edges
pub mod Blocks
pub mod HeadReading
pub mod UnitReading
