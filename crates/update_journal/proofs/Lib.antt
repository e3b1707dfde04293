mod AreBytesLemmas
pub mod CallsLemmas
pub mod EntriesLemmas
mod HiddenLemmas
pub mod IsUnderWayLemmas
mod JournalLawsLemmas
pub mod PatchedLemmas
mod PiecesInLemmas
mod StableOfLemmas
mod WellFormedLemmas
mod worked
