pub mod SelfLoops
pub mod Leaps
