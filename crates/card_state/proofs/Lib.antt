pub mod AreEventCodesLemmas
mod AreNodesRightLemmas
pub mod BitsForLemmas
mod CodesOfLemmas
pub mod FileOfLemmas
mod FilterRangeLemmas
pub mod FittingLemmas
pub mod HoldingLemmas
pub mod IsEfKindLemmas
mod IsNodeLemmas
mod IsRegistrationLemmas
mod IsSoundFileLemmas
mod IsSoundPinLemmas
mod IsSoundRowLemmas
pub mod KeyOfSlotLemmas
pub mod MigrationLemmas
pub mod NewFileLemmas
pub mod PlacedLemmas
mod RangeWithLenLemmas
mod RecordsAreShortLemmas
pub mod RecordsOfLemmas
mod RefusedAtFirstLemmas
pub mod RowPlaceLemmas
mod ShownLemmas
pub mod SortedCodesLemmas
pub mod SoundStandsLemmas
mod StandsForLemmas
mod StateLawsLemmas
mod StateOfLemmas
pub mod WithContentsLemmas
mod worked
