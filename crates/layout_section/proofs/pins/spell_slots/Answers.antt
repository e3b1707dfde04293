use Rattle.std.proofs.Common.{◌≡◌, ℕ, ◌+◌, ◌*◌, ◌≤◌, List, length, ap, ◌∙◌, arith, slice_index_or}
use Rattle.std.proofs.lemmas.List.{get_or_default}
use Rattle.list_laws.proofs.PatchesLemmas.{length-patched}
use Rattle.card_state.specs.Blank.{absent_pin}
use Rattle.card_state.specs.Decoding.{bytes_at}
use Rattle.layout_entries.specs.Spelling.{pin_spelled}
use Rattle.layout_section.proofs.PatchedLemmas.{one_more_there}
use Rattle.layout_section.proofs.pins.spell_slots.Goals as goal

pub loop-slot-preserved : goal.loop-slot-preserved
loop-slot-preserved c =
    let long : length c.as_slice.result.now ≡ 20 = ap (λ (l : List ℕ). length l) c.as_slice.ensures.value ∙ c.spell_pin.ensures.long in
    let fits : 20 * c.loop-slot.slot + 20 ≤ length c.loop-slot.bytes = omega (arith, c.loop-slot.invariant.long, c.loop-slot-test.true) in
    record {
      long = ap (λ (l : List ℕ). length l) c.put.ensures ∙ length-patched (20 * c.loop-slot.slot) c.as_slice.result.now c.loop-slot.bytes (omega arith) ∙ c.loop-slot.invariant.long;
      spelled_at = λ k low.
          ap (λ (l : List ℕ). bytes_at l (20 * k) 20) c.put.ensures
          ∙ one_more_there (λ n bytes. bytes ≡ pin_spelled (slice_index_or c.args.slots.now n absent_pin)) 20 20 c.loop-slot.slot c.as_slice.result.now c.loop-slot.bytes (omega arith) long fits
          (c.as_slice.ensures.value ∙ c.spell_pin.ensures.value ∙ ap pin_spelled (get_or_default c.args.slots.now c.loop-slot.slot _ absent_pin (omega (arith, c.requires, c.loop-slot-test.true)))) c.loop-slot.invariant.spelled_at k low;
    }

pub returns : goal.returns
returns c = λ k low. c.loop-slot.invariant.spelled_at k (omega arith)
