pub mod Distinct
pub mod Groups
pub mod Inverse
pub mod Reading
