pub mod Results
pub mod Regexes
pub mod Spans
pub mod TokenLists
pub mod Sent
