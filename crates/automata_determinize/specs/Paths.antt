pub mod Starts
pub mod Selections
