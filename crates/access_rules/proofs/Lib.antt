mod ConditionsTruthLemmas
mod GrantsLemmas
mod HoldByLemmas
mod ObjectLemmas
mod PairLemmas
pub mod PartInLemmas
mod SaysLemmas
mod worked
