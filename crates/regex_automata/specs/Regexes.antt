pub mod SoundPairs
pub mod Builds
pub mod Caches
pub mod LentCaches
