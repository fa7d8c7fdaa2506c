pub mod State
pub mod Answers
pub mod Contracts
pub mod SetsByPaths
pub mod Cached
pub mod Progress
