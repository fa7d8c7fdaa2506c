pub mod Patches
pub mod Prefixes
pub mod Refusals
