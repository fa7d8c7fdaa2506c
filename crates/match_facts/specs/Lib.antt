pub mod Facts
pub mod Prefixes
pub mod Runs
