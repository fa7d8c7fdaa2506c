pub mod Translated
pub mod Agreeing
pub mod Patterns
