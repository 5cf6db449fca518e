pub mod Answers
pub mod Seen
pub mod Spellings
pub mod Started
pub mod Wanted
