pub mod LateIsRight
pub mod StartIsRight
pub mod Steps
pub mod Walks
