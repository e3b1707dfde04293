-- What the rows that were passed keep apart is spelled, 32 bytes a row; 32 rows have 1,024.
use Rattle.std.proofs.Common.{◌≡◌, ℕ, ◌*◌, ◌<◌, length, slice_index_or}
use Rattle.card_state.specs.Blank.{unused_row}
use Rattle.card_state.specs.Decoding.{bytes_at}
use Rattle.layout_section.specs.RowTables.{IsKeptApart}
use Rattle.layout_section.proofs.rows.spell_kept.Given as goal

abbrev pub invariant-loop-shelf : goal.invariant-loop-shelf
invariant-loop-shelf l = record {
  long : length l.bytes ≡ 1024;
  spelled_at : (k : ℕ) → k < l.shelf → IsKeptApart (slice_index_or l.rows k unused_row) (bytes_at l.bytes (32 * k) 32);
}
