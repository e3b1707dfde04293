pub mod AreRowsLemmas
pub mod AsksLemmas
pub mod BegunLemmas
mod CarriedLemmas
pub mod CommandsLemmas
mod DrivenLemmas
mod DrivingLemmas
pub mod EventsOfLemmas
pub mod FetchingLemmas
mod FilledLemmas
pub mod InstallationsAreAcceptedLemmas
mod IsInOrderLemmas
mod KindsLemmas
pub mod LateTriggerLemmas
mod LosesNothingLemmas
mod MovedByLemmas
mod ReachesWhoAskedLemmas
pub mod RunOfRowLemmas
mod RunOnLemmas
mod SoundLemmas
pub mod TriggerOrderLemmas
mod worked
