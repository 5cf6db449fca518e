pub mod Answers
pub mod Laws
pub mod Meaning
pub mod Reading
pub mod Samples
pub mod Seen
pub mod Texts
pub mod Units
