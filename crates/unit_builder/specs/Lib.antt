pub mod CellPieces
pub mod Parts
