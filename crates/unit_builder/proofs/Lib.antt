pub mod PieceCounts
pub mod PieceTargets
pub mod RegisterWords
pub mod Small
pub mod Unrefused
