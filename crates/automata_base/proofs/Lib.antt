pub mod Nfas
pub mod Powersets
pub mod Answers
pub mod Paths
pub mod ByteClasses
