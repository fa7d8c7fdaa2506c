pub mod Capacities
pub mod Turned
pub mod Reversals
