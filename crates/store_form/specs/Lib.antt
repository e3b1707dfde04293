pub mod Faults
pub mod Pieces
pub mod Spans
pub mod Spared
pub mod StoreCalls
