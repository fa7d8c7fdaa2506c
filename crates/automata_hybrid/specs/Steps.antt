pub mod Events
pub mod Starts
pub mod Steps
pub mod BySteps
