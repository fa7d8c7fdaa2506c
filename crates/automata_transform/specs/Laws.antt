pub mod AnchoredStarts
pub mod FlattenedChains
pub mod MergedUnions
