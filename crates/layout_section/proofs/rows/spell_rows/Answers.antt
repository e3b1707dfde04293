-- One row more is spelled in 51 of its 64 bytes, and those before it stay as they were.
use Rattle.std.proofs.Common.{◌≡◌, ℕ, ◌+◌, ◌*◌, ◌≤◌, List, length, ap, ◌∙◌, arith, slice_index_or}
use Rattle.std.proofs.lemmas.List.{get_or_read}
use Rattle.list_laws.proofs.PatchesLemmas.{length-patched}
use Rattle.card_state.specs.Blank.{unused_row}
use Rattle.card_state.specs.Decoding.{bytes_at}
use Rattle.layout_entries.specs.Spelling.{row_spelled}
use Rattle.layout_section.proofs.PatchedLemmas.{one_more_there}
use Rattle.layout_section.proofs.rows.spell_rows.Goals as goal

pub loop-shelf-preserved : goal.loop-shelf-preserved
loop-shelf-preserved c =
    let long : length c.as_slice.result.now ≡ 51 = ap (λ (l : List ℕ). length l) c.as_slice.ensures.value ∙ c.spell_row.ensures.long in
    let fits : 64 * c.loop-shelf.shelf + 51 ≤ length c.loop-shelf.bytes = omega (arith, c.loop-shelf.invariant.long, c.loop-shelf-test.true) in
    record {
      long = ap (λ (l : List ℕ). length l) c.put.ensures ∙ length-patched (64 * c.loop-shelf.shelf) c.as_slice.result.now c.loop-shelf.bytes (omega arith) ∙ c.loop-shelf.invariant.long;
      spelled_at = λ k low.
          ap (λ (l : List ℕ). bytes_at l (64 * k) 51) c.put.ensures
          ∙ one_more_there (λ n bytes. bytes ≡ row_spelled (slice_index_or c.args.rows.now n unused_row)) 64 51 c.loop-shelf.shelf c.as_slice.result.now c.loop-shelf.bytes (omega arith) long fits
          (c.as_slice.ensures.value ∙ c.spell_row.ensures.value ∙ ap row_spelled (get_or_read c.args.rows.now c.loop-shelf.shelf c.index-rows-shelf.result (omega (arith, c.requires, c.loop-shelf-test.true)) c.index-rows-shelf.is unused_row))
          c.loop-shelf.invariant.spelled_at k low;
    }

pub returns : goal.returns
returns c = λ k low. c.loop-shelf.invariant.spelled_at k (omega arith)
