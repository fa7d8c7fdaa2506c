pub mod Machine
pub mod Builds
pub mod FullDfas
pub mod OwnStates
pub mod StartSlots
pub mod Reachable
