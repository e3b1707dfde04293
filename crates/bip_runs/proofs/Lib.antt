pub mod IsLineLemmas
mod IsServingLemmas
pub mod ScriptsLemmas
mod TakesFrontLemmas
mod worked
