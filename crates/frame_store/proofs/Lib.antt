mod InLineLemmas
mod KeptLemmas
mod LodgeLemmas
mod RoomAndLeaseLemmas
