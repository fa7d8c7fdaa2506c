pub mod Nfas
pub mod Answers
pub mod Paths
