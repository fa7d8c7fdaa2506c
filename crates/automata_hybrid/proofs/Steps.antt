pub mod Events
pub mod Effects
pub mod Ids
pub mod Starts
pub mod Steps
pub mod BySteps
