pub mod CastsLemmas
mod DigitsUpToLemmas
mod RowFromLemmas
