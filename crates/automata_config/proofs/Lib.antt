pub mod KeptUnions
pub mod NonAscii
pub mod Refusing
