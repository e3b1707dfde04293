mod CommitsChangeOneEntryLemmas
mod FieldsLemmas
mod PaddedLemmas
pub mod SpellingLemmas
mod TableOfLemmas
mod worked
