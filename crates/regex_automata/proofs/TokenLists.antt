pub mod Refusals
pub mod Tiling
pub mod OfPaths
