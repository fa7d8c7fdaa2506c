pub mod Contracts
pub mod PassContracts
pub mod PassState
pub mod PieceRuns
pub mod Traces
pub mod Units
