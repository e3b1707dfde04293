pub mod NewEntries
pub mod Outcomes
pub mod Writes
pub mod Written
pub mod WrittenFiles
