pub mod Anchored
pub mod Merges
pub mod Captures
pub mod Flattens
pub mod Mirrors
pub mod Standing
pub mod Folds
