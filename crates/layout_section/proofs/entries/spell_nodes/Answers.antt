use Rattle.std.proofs.Common.{◌≡◌, ℕ, ◌+◌, ◌*◌, ◌≤◌, List, length, ap, ◌∙◌, arith, slice_index_or}
use Rattle.list_laws.proofs.PatchesLemmas.{length-patched}
use Rattle.card_state.specs.Blank.{unused_node}
use Rattle.card_state.specs.Decoding.{bytes_at}
use Rattle.layout_entries.specs.Spelling.{node_spelled}
use Rattle.layout_section.proofs.PatchedLemmas.{one_more_there}
use Rattle.layout_section.proofs.entries.spell_nodes.Goals as goal

pub loop-number-preserved : goal.loop-number-preserved
loop-number-preserved c =
    let at : ℕ = c.loop-number.number in
    let part : List ℕ = c.as_slice.result.now in
    let long : length c.as_slice.result.now ≡ 16 = ap (λ (l : List ℕ). length l) c.as_slice.ensures.value ∙ c.spelled_at.ensures.long in
    let fits : 16 * c.loop-number.number + 16 ≤ length c.loop-number.bytes = omega (arith, c.loop-number.invariant.long, c.loop-number-test.true) in
    record {
      long = ap (λ (l : List ℕ). length l) c.put.ensures ∙ length-patched (16 * c.loop-number.number) c.as_slice.result.now c.loop-number.bytes (omega arith) ∙ c.loop-number.invariant.long;
      spelled_at = λ k low.
          ap (λ (l : List ℕ). bytes_at l (16 * k) 16) c.put.ensures
          ∙ one_more_there (λ n bytes. bytes ≡ node_spelled (slice_index_or c.args.nodes.now n unused_node)) 16 16 c.loop-number.number c.as_slice.result.now c.loop-number.bytes (omega arith) long fits
          (c.as_slice.ensures.value ∙ c.spelled_at.ensures.value) c.loop-number.invariant.spelled_at k low;
    }

pub returns : goal.returns
returns c = λ k low. c.loop-number.invariant.spelled_at k (omega arith)
