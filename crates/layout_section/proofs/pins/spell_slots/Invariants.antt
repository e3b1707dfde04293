-- The slots that were passed are spelled, each in its 20 bytes, of 64 in all.
use Rattle.std.proofs.Common.{◌≡◌, ℕ, ◌*◌, ◌<◌, length, slice_index_or}
use Rattle.card_state.specs.Blank.{absent_pin}
use Rattle.card_state.specs.Decoding.{bytes_at}
use Rattle.layout_entries.specs.Spelling.{pin_spelled}
use Rattle.layout_section.proofs.pins.spell_slots.Given as goal

abbrev pub invariant-loop-slot : goal.invariant-loop-slot
invariant-loop-slot l = record {
  long : length l.bytes ≡ 64;
  spelled_at : (k : ℕ) → k < l.slot → bytes_at l.bytes (20 * k) 20 ≡ pin_spelled (slice_index_or l.slots k absent_pin);
}
