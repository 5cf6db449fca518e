pub mod Broken
pub mod Pieces
pub mod Suited
pub mod Sample
pub mod Tall
