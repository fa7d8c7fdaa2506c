pub mod StartSlots
pub mod Builds
pub mod OneState
pub mod Costs
pub mod Powersets
