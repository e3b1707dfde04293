use Rattle.std.proofs.Common.{◌≡◌, ℕ, ◌<◌, true}
use Rattle.card_state.specs.Blank.{unused_row}
use Rattle.card_state.specs.Decoding.{row_at}
use Rattle.card_state.specs.Checks.{row_check}
use Rattle.layout_mount.proofs.FindsFirstLemmas.{IsFilling}
use Rattle.layout_mount.proofs.loading.load_rows.Given as goal

abbrev pub invariant-loop-shelf : goal.invariant-loop-shelf
invariant-loop-shelf l = record {
  filling : IsFilling (row_at l.image) unused_row 32 l.shelf l.rows;
  met : (k : ℕ) → k < l.shelf → (row_check l.image k).is_met ≡ true;
}
