-- What no contract of a public call reaches: the definitions for private functions and for proofs, in the same folders.
pub mod Cache
pub mod Machines
pub mod Pieces
pub mod Searches
pub mod Steps
pub mod Walks
pub mod Fast
