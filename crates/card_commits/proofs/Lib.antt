pub mod CommitsOverLemmas
mod CommittedLemmas
mod DescriptorsOfLemmas
mod EntriesLemmas
pub mod FilledLemmas
mod HasRecordLemmas
mod HeldByLemmas
mod InARowLemmas
pub mod KeepsLemmas
mod PinsLemmas
mod PreparesLemmas
mod RowsLemmas
mod TablesTellStatesLemmas
pub mod WritesAllLemmas
pub mod WritingLemmas
mod worked
