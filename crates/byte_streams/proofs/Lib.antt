mod BeginsBadLemmas
mod IsWithinLemmas
mod LineLemmas
mod NextLineLemmas
pub mod ReadingLemmas
pub mod StreamsLemmas
mod WindowLemmas
mod worked
