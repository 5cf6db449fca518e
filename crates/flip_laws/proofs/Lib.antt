pub mod LeftMemory
pub mod Unread
pub mod Steps
pub mod Apart
pub mod Samples
