pub mod Spell
pub mod Fine
pub mod Proper
pub mod Trees
pub mod Examples
