pub mod AnswersLemmas
mod AnswersNeverFailLemmas
pub mod ChainedLemmas
pub mod IsCountedLemmas
mod IsKnownStatusLemmas
pub mod IsLawfulAnswerLemmas
pub mod OtherFilesLemmas
pub mod RowNamedLemmas
pub mod ToldPendingLemmas
pub mod TriedLemmas
pub mod WokenLemmas
mod worked
