pub mod Paths
pub mod Order
pub mod Starts
pub mod Selections
