pub mod Ids
pub mod Table
pub mod Stores
pub mod Caches
pub mod Usage
pub mod Progress
pub mod States
pub mod Survival
