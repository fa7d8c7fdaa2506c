pub mod Building
pub mod Mirrors
pub mod Reach
pub mod Utf8
pub mod Bounds
