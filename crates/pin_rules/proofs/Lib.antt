mod GuardedLemmas
mod IsTriedLemmas
mod OutcomesLemmas
mod PinFoundLemmas
mod PresentPinLemmas
mod PutsLemmas
