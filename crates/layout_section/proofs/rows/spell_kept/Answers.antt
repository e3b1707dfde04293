use Rattle.std.proofs.Common.{ℕ, ◌+◌, ◌*◌, ◌≤◌, List, length, sym, ap, subst, ◌∙◌, arith, slice_index_or}
use Rattle.std.proofs.lemmas.List.{get_or_read}
use Rattle.list_laws.proofs.PatchesLemmas.{length-patched}
use Rattle.card_state.specs.declared.entries.Row.{Row}
use Rattle.card_state.specs.Blank.{unused_row}
use Rattle.card_state.specs.Decoding.{bytes_at}
use Rattle.layout_section.specs.RowTables.{IsKeptApart}
use Rattle.layout_section.proofs.PatchedLemmas.{one_more_there}
use Rattle.layout_section.proofs.rows.spell_kept.Goals as goal

pub loop-shelf-preserved : goal.loop-shelf-preserved
loop-shelf-preserved c =
    let fits : 32 * c.loop-shelf.shelf + 32 ≤ length c.loop-shelf.bytes = omega (arith, c.loop-shelf.invariant.long, c.loop-shelf-test.true) in
    record {
      long = ap (λ (l : List ℕ). length l) c.put.ensures ∙ length-patched (32 * c.loop-shelf.shelf) c.kept_apart.result c.loop-shelf.bytes (omega (arith, c.kept_apart.ensures.long)) ∙ c.loop-shelf.invariant.long;
      spelled_at = λ k low.
          subst (λ (l : List ℕ). IsKeptApart (slice_index_or c.args.rows.now k unused_row) (bytes_at l (32 * k) 32)) (sym c.put.ensures)
          (one_more_there (λ n bytes. IsKeptApart (slice_index_or c.args.rows.now n unused_row) bytes) 32 32 c.loop-shelf.shelf c.kept_apart.result c.loop-shelf.bytes (omega arith) c.kept_apart.ensures.long fits
          (subst (λ (row : Row). IsKeptApart row c.kept_apart.result)
          (get_or_read c.args.rows.now c.loop-shelf.shelf c.index-rows-shelf.result (omega (arith, c.requires.long, c.loop-shelf-test.true)) c.index-rows-shelf.is unused_row) c.kept_apart.ensures.more)
          c.loop-shelf.invariant.spelled_at k low);
    }

pub returns : goal.returns
returns c = λ k low. c.loop-shelf.invariant.spelled_at k (omega arith)
