pub mod Anchored
pub mod Carried
pub mod Flattened
pub mod Merged
