mod AnsweredLemmas
pub mod AreForOthersLemmas
pub mod AsksLemmas
mod BoxesLemmas
mod CarriedLemmas
mod CarriesLemmas
mod CaughtUpLemmas
pub mod CountingLemmas
mod CodesOnLemmas
mod EventsLemmas
mod FilledLemmas
mod FirstIdleLemmas
mod HasPlacesLemmas
mod HasRowOnLemmas
mod InTurnLemmas
mod IsSameItemLemmas
mod IsSessionServedLemmas
mod LentLemmas
pub mod MovedLemmas
mod OutstandingLemmas
mod PendingLemmas
mod ReachedLemmas
pub mod RowsAreListedLemmas
mod RunOfRowLemmas
mod RunOnLemmas
pub mod ScenesLemmas
pub mod SessionsAreServedLemmas
pub mod StandsForLemmas
pub mod StopsAtLemmas
mod TurnsToLemmas
mod WantedLemmas
mod WithTheseRowsLemmas
pub mod WrittenLemmas
