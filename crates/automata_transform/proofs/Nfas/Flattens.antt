pub mod Picks
pub mod Tests
pub mod Ways
