pub mod Runs
pub mod Answers
pub mod Progress
pub mod Follows
pub mod Whole
pub mod WholeWalks
pub mod Walks
pub mod Matching
