use Rattle.std.proofs.Common.{◌≡◌, ℕ, ◌≤◌, List, ◌-◌, ◌^◌, ◌<◌}
use Rattle.card_state.specs.Places.{data_place}
use Rattle.card_state.specs.States.{state_of}
use Rattle.file_model.specs.Rooms.{IsRoom}
use Rattle.file_admin.proofs.rooms.room.Given as goal

-- no place before this one serves
abbrev pub invariant-loop-place : goal.invariant-loop-place
invariant-loop-place l = record {
  from : data_place ≤ l.place;
  low : l.place < 2 ^ 17;
  some : (l.size ≡ 0) → l.place ≡ data_place;
  passed : (content : List ℕ) (other : ℕ) → IsRoom (state_of l.loaded content) l.size other → l.place ≤ other;
}

abbrev pub decreases-loop-place : goal.decreases-loop-place
decreases-loop-place l = 65537 - l.place
