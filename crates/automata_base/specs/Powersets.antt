pub mod Powerset
pub mod Passes
pub mod Closure
pub mod Cuts
pub mod Code
pub mod Members
pub mod Rooms
pub mod SparseSet
