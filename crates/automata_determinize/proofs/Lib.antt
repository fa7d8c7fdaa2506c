pub mod Powersets
pub mod Answers
pub mod Paths
