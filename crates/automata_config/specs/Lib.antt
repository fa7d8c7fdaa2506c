pub mod Options
pub mod Settled
pub mod Settling
