pub mod AtStartLemmas
mod BinariesLemmas
pub mod ChainsLemmas
pub mod ChildNamedLemmas
mod FileFoundLemmas
pub mod FileMadeLemmas
pub mod FileResizedLemmas
mod FindsNearestLemmas
mod FindsWholePartsLemmas
pub mod GuardsLemmas
mod HasSameAttributesLemmas
mod HasSameShapeLemmas
mod IsLawfulOutcomeLemmas
pub mod IsLawfulTreeCommandLemmas
pub mod IsNodeInTheWayLemmas
mod IsSelectionLemmas
mod KeepsSelectedLemmas
mod KeepsSelectionLemmas
mod LifeCyclesLemmas
pub mod NumbersAreEntriesLemmas
mod OneFileLemmas
mod OptionLemmas
mod PassesChangesLemmas
mod PinsLemmas
pub mod RecordsLemmas
pub mod RoomsLemmas
pub mod SelectingLemmas
pub mod SelectionOfLemmas
mod TablesTellFilesLemmas
pub mod TemplatesLemmas
mod worked
