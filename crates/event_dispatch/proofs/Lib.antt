mod AreListedLemmas
pub mod ChangesAreFollowedLemmas
mod ComesInLemmas
pub mod CommitsLemmas
mod FramesLemmas
mod InsertLemmas
pub mod InstallationsAreFollowedLemmas
mod IsTargetLemmas
mod LeftByLemmas
mod PositionFromLemmas
mod RowPlacedLemmas
mod RowsSinceLemmas
mod StandInOneOrderLemmas
mod StandsForLemmas
mod TargetsLemmas
pub mod TriggerOrderLemmas
mod WaitingCommandsLemmas
mod WithCodeLemmas
mod WithoutCodeLemmas
mod WithoutRowLemmas
mod worked
