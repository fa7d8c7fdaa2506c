pub mod Input
pub mod Tapes
pub mod Looks
pub mod LookSets
pub mod Matches
pub mod PatternSet
pub mod StartConfig
