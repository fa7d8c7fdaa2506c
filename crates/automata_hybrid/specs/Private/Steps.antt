pub mod Starts
pub mod Steps
