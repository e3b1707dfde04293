mod FourFaultsLemmas
mod IsCommandLemmas
mod IsEnvelopeLemmas
mod IsProperLemmas
mod ItemsOfLemmas
pub mod LengthsOfCommandsLemmas
mod NeededLemmas
mod ProactiveOfLemmas
mod ProactiveReadLemmas
pub mod RenumberedLemmas
mod RepliesLemmas
mod SpelledLemmas
mod SpellingsLemmas
mod ValuesLemmas
mod worked
