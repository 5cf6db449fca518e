pub mod Countable
pub mod Going
pub mod Places
pub mod Targets
pub mod Turns
pub mod PrologueTurns
pub mod TextTurns
pub mod Laws
