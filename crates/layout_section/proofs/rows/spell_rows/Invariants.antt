-- The rows that were passed are spelled, each in 51 of its 64 bytes; 16 rows have 1,024.
use Rattle.std.proofs.Common.{◌≡◌, ℕ, ◌*◌, ◌<◌, length, slice_index_or}
use Rattle.card_state.specs.Blank.{unused_row}
use Rattle.card_state.specs.Decoding.{bytes_at}
use Rattle.layout_entries.specs.Spelling.{row_spelled}
use Rattle.layout_section.proofs.rows.spell_rows.Given as goal

abbrev pub invariant-loop-shelf : goal.invariant-loop-shelf
invariant-loop-shelf l = record {
  long : length l.bytes ≡ 1024;
  spelled_at : (k : ℕ) → k < l.shelf → bytes_at l.bytes (64 * k) 51 ≡ row_spelled (slice_index_or l.rows k unused_row);
}
