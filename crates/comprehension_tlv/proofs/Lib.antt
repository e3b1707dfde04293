pub mod IsBytesLemmas
mod ObjectAtLemmas
mod OutlineAtLemmas
pub mod ReadingLemmas
pub mod ValueOfLemmas
