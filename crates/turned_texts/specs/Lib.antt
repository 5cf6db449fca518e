pub mod Sources
pub mod Turning
pub mod Texts
pub mod IndexTexts
