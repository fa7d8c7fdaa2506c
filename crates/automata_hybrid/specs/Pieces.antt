pub mod State
pub mod Answers
pub mod Whole
pub mod Walks
pub mod Matching
