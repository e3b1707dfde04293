pub mod Answers
pub mod Calls
pub mod Counts
pub mod Lending
pub mod Told
