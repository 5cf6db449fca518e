pub mod FaultyRuns
pub mod Apart
