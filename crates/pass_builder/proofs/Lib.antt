pub mod SameCell
