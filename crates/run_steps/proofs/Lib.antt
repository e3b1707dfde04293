mod BareBytesLemmas
mod BreaksTpduLemmas
pub mod CarriesLemmas
mod ComesLemmas
mod DeliversLemmas
pub mod GoesOnLemmas
pub mod ItemOfLemmas
mod LeLemmas
mod LinkedLemmas
mod LooksAtLeLemmas
mod SendsLemmas
pub mod StandingLemmas
mod SteppedLemmas
pub mod SteppingLemmas
pub mod TakesFrontLemmas
pub mod ViewLemmas
mod worked
