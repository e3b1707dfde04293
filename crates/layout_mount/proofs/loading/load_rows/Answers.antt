-- The rows that passed fill the table's front, and on the shelves that a narrow card lacks the unused rows after them are right.
use Rattle.std.proofs.Common.{◌≡◌, ℕ, ◌+◌, ◌<◌, ◌≤◌, true, length, take, set, sym, ap, ◌∙◌, arith, subst, below_more, Some}
use Rattle.std.proofs.lemmas.List.{length-replicate}
use Rattle.card_state.specs.Blank.{unused_row}
use Rattle.card_state.specs.Decoding.{is_wide, row_bytes, kept_bytes, row_at}
use Rattle.card_state.specs.Places.{row_count}
use Rattle.card_state.specs.Checks.{row_check}
use Rattle.layout_mount.proofs.FindsFirstLemmas.{row_when_high, IsFilling, IsFilling_none, IsFilling_more, take_filled, whole_filled, none_failed, first_failed_at}
use Rattle.layout_mount.proofs.loading.load_rows.Goals as goal

pub loop-shelf-init : goal.loop-shelf-init
loop-shelf-init c = record {
  filling = IsFilling_none (row_at c.args.image.now) unused_row 32 c.args.rows.now c.requires.unused (ap length c.requires.unused ∙ length-replicate 32 unused_row);
  met = λ k h. absurd (omega arith);
}

pub load_row-requires-clause-earlier : goal.load_row-requires-clause-earlier
load_row-requires-clause-earlier c =
    let same : c.from.result ≡ c.loop-shelf.shelf = omega arith in
    ap (λ (n : ℕ). take n c.loop-shelf.rows) same
    ∙ take_filled (row_at c.args.image.now) unused_row 32 c.loop-shelf.shelf c.loop-shelf.rows (omega arith) c.loop-shelf.invariant.filling

pub returns-clause-found : goal.returns-clause-found
returns-clause-found c =
    let above : (k : ℕ) → c.loop-shelf.shelf ≤ k → row_count (is_wide c.args.image.now) ≤ k = λ k low. omega (arith, c.count_of_rows-count.ensures.value, ap row_count c.requires.wide) in
    whole_filled (row_at c.args.image.now) unused_row 32 c.loop-shelf.shelf c.loop-shelf.rows (λ k low high. row_when_high (is_wide c.args.image.now) k (row_bytes c.args.image.now k) (kept_bytes c.args.image.now k) (above k low)) c.loop-shelf.invariant.filling

pub returns-clause-checked : goal.returns-clause-checked
returns-clause-checked c =
    let count : row_count (is_wide c.args.image.now) ≤ c.loop-shelf.shelf = omega (arith, c.count_of_rows-count.ensures.value, ap row_count c.requires.wide) in
    none_failed (row_check c.args.image.now) (row_count (is_wide c.args.image.now)) (λ k h. c.loop-shelf.invariant.met k (omega arith))

pub returns-in-Err-clause-checked : goal.returns-in-Err-clause-checked
returns-in-Err-clause-checked c =
    let count : c.loop-shelf.shelf < row_count (is_wide c.args.image.now) = omega (arith, c.count_of_rows-count.ensures.value, ap row_count c.requires.wide) in
    first_failed_at (row_check c.args.image.now) (row_count (is_wide c.args.image.now)) c.loop-shelf.shelf (omega arith) c.loop-shelf.invariant.met c.in-Err.ensures.0
    ∙ ap (λ (n : ℕ). Some n) (sym c.in-Err.ensures.1)

pub loop-shelf-preserved : goal.loop-shelf-preserved
loop-shelf-preserved c =
    let at : ℕ = c.loop-shelf.shelf in
    let same : at ≡ c.from-in-Ok.result = omega arith in
    let Fills : ℕ → Type 0 = λ i. IsFilling (row_at c.args.image.now) unused_row 32 (at + 1) (set c.loop-shelf.rows i c.in-Ok.row) in
    record {
      filling = subst Fills same (IsFilling_more (row_at c.args.image.now) unused_row 32 at c.loop-shelf.rows c.in-Ok.row (omega arith) c.in-Ok.ensures.1 c.loop-shelf.invariant.filling);
      met = below_more (λ (k : ℕ). (row_check c.args.image.now k).is_met ≡ true) at c.loop-shelf.invariant.met c.in-Ok.ensures.0;
    }
