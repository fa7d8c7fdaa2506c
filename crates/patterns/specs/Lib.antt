pub mod Patterns
pub mod Attempts
pub mod Searches
pub mod Drafts
pub mod Faults
pub mod Facts
pub mod Iteration
pub mod Sets
