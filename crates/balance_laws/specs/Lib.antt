pub mod Totals
pub mod Replay
pub mod Laws
pub mod Independence
