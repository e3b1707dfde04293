mod OneHistoryLemmas
mod SoonestLemmas
mod WorkLeftLemmas
mod worked
