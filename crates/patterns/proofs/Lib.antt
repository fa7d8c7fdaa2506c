mod Attempting
pub mod Building
mod Compilable
mod Drafting
mod Faults
pub mod Items
mod Joining
mod Beginnings
pub mod Searching
pub mod Sets
mod Skips
mod Trees
