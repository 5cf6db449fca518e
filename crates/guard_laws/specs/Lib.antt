pub mod IndexArrays
pub mod Forms
pub mod Guards
