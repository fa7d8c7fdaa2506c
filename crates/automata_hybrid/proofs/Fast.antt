pub mod SelfLoops
pub mod Leaps
pub mod Lanes
pub mod Runs
pub mod Mixed
