pub mod Faults
pub mod Images
pub mod Loads
pub mod Mounted
