pub mod Skipping
pub mod Beginnings
pub mod Bytes
pub mod Heads
pub mod Needles
pub mod FirstBytes
pub mod Pairs
pub mod NeedleSearches
