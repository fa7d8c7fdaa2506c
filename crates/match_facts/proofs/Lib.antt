pub mod Prefixes
pub mod Runs
