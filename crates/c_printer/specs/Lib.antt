pub mod Before
pub mod Powers
pub mod Scopes
