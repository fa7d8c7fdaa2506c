pub mod OfPasses
pub mod Within
