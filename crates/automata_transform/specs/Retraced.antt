pub mod ReversedEdges
pub mod Copies
pub mod DenseRuns
pub mod Folds
pub mod Segments
pub mod Links
