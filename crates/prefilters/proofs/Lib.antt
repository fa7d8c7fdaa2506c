pub mod Moving
pub mod Answering
pub mod Nowhere
pub mod Anchoring
pub mod FirstSteps
pub mod Meaning
pub mod Joining
mod Skips
mod Lanes
mod Covering
pub mod Consisting
mod Following
mod Starting
