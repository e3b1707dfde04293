pub mod Searching
pub mod Tables
pub mod Targets
pub mod Updating
