pub mod Calls
pub mod Entries
pub mod Hidden
pub mod Journal
pub mod JournalLaws
pub mod Laws
pub mod WellFormed
