pub mod Boundaries
pub mod ByteSets
pub mod Marking
pub mod PatternsInSets
