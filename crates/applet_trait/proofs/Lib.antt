mod IsLawfulLemmas
mod IsProperActLemmas
mod worked
