pub mod Bounds
pub mod Forms
pub mod Handset
pub mod Reads
pub mod Traces
pub mod Values
pub mod Words
