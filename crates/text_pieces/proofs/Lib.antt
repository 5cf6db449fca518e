pub mod Runs
pub mod NumberLemmas
