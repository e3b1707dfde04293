pub mod BetweenLines
pub mod Parts
pub mod Serving
pub mod Traces
