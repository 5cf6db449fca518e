-- The grammar of sources and printed texts: which tokens a text has, and which lists of tokens are units.
pub mod Symbols
pub mod Tokens
pub mod Lexemes
pub mod Tables
pub mod Expressions
pub mod Conditions
pub mod Statements
pub mod Heads
pub mod Units
pub mod Texts
