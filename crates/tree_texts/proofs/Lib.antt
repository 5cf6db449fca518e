pub mod FineTrees
pub mod ProperTrees
pub mod Units
pub mod TreesOfUnits
pub mod UnitsOfTexts
