pub mod Parts
pub mod Comparing
pub mod Routes
pub mod Places
pub mod Back
pub mod Forth
pub mod Runs
pub mod Readings
