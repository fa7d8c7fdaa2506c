pub mod Answers
pub mod OfPasses
pub mod Spans
pub mod TruePairs
