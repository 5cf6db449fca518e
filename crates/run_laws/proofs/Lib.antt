pub mod Replayed
pub mod Within
pub mod Steps
pub mod Follows
pub mod Runs
pub mod Alike
pub mod Pieces
