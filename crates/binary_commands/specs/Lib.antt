pub mod Commands
pub mod Ends
pub mod Reads
pub mod Targets
pub mod Telling
