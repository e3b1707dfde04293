pub mod Adapter
pub mod Bench
pub mod Faults
pub mod Ranges
