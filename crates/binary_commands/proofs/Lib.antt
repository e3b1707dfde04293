pub mod GivesLemmas
mod OptionLemmas
mod PinToldLemmas
mod ReadsOnceLemmas
mod RulingRecordLemmas
mod SelectingLemmas
mod UpdateInLemmas
mod WorkedOnLemmas
pub mod WritesLemmas
