pub mod Builds
pub mod Walks
pub mod Words
