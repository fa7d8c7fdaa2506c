pub mod Fields
pub mod Machine
