pub mod SameCell
pub mod Within
pub mod Rows
pub mod Cells
