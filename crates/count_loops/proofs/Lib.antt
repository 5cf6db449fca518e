pub mod Counted
pub mod Turning
pub mod Uninspected
pub mod WriteSites
