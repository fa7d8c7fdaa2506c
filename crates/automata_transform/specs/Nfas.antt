pub mod AnchoredNfas
pub mod FlattenedNfas
pub mod Merges
pub mod MergedNfas
pub mod Mirrors
pub mod ReversedSizes
