pub mod Reading
pub mod Agrees
pub mod Answers
