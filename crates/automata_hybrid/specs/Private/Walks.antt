pub mod Answers
pub mod Contracts
pub mod Parts
pub mod State
