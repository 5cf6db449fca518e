pub mod RegularReads
pub mod Subscripts
