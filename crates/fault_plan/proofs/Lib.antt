pub mod ArrayNames
pub mod Decided
pub mod FlipLines
pub mod FlipTexts
pub mod SinglePieces
pub mod UnitFlips
pub mod VisibleLines
