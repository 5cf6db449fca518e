pub mod Booleans
pub mod Lists
pub mod RangeLines
pub mod Twice
