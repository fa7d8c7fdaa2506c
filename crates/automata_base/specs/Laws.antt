pub mod KeptUnions
pub mod Walks
