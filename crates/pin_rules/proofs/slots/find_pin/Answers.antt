-- The first slot with the key is one of the table's, and the one that the model finds there; an unused slot, of key 0, is never it.
use Rattle.std.proofs.Common.{◌<◌, List, length, get_or, sym, ap, ◌∙◌, arith, option_map, find, slice_get}
use Rattle.std.proofs.lemmas.Bool.{eqb-false}
use Rattle.std.proofs.lemmas.Option.{slice_get-get_or}
use Rattle.card_state.specs.declared.entries.PinSlot.{PinSlot}
use Rattle.card_state.specs.States.{pin_state}
use Rattle.pin_rules.proofs.PinFoundLemmas.{is_key, no_slot, pin_in_slots, found_at, found_nowhere, place_low, has_key, its_key}
use Rattle.pin_rules.proofs.slots.find_pin.Goals as goal

pub overflow_cast-result : goal.overflow_cast-result
overflow_cast-result c =
    let low : c.in-Some.slot < length c.all_pins-pins.result.now = place_low (is_key c.args.key) c.all_pins-pins.result.now c.in-Some.slot (sym c.slot_of.ensures ∙ c.in-Some.is) in
    omega (arith, low, c.all_pins-pins.ensures.long)

pub offset_bounds-pins-slot : goal.offset_bounds-pins-slot
offset_bounds-pins-slot c =
    let low : c.in-Some.slot < length c.all_pins-pins.result.now = place_low (is_key c.args.key) c.all_pins-pins.result.now c.in-Some.slot (sym c.slot_of.ensures ∙ c.in-Some.is) in
    omega (arith, low, c.all_pins-pins.ensures.long)

pub bounds-pins-slot : goal.bounds-pins-slot
bounds-pins-slot c = place_low (is_key c.args.key) c.all_pins-pins.result.now c.in-Some.slot (sym c.slot_of.ensures ∙ c.in-Some.is)

pub returns-in-Some-clause-value : goal.returns-in-Some-clause-value
returns-in-Some-clause-value c =
    sym (pin_in_slots c.args.loaded.now c.args.key ∙ ap (λ (pins : List PinSlot). option_map pin_state (find (is_key c.args.key) pins)) (sym c.all_pins-pins.ensures.value)
    ∙ ap (option_map pin_state) (found_at (is_key c.args.key) c.all_pins-pins.result.now c.in-Some.slot no_slot (sym c.slot_of.ensures ∙ c.in-Some.is)))

pub returns-in-Some-clause-held : goal.returns-in-Some-clause-held
returns-in-Some-clause-held c =
    let is = sym c.slot_of.ensures ∙ c.in-Some.is in
    let found = found_at (is_key c.args.key) c.all_pins-pins.result.now c.in-Some.slot no_slot is in
    let low = place_low (is_key c.args.key) c.all_pins-pins.result.now c.in-Some.slot is in
    let pin : PinSlot = get_or c.all_pins-pins.result.now c.in-Some.slot no_slot in
    record {
      there = ap (λ (pins : List PinSlot). slice_get pins c.in-Some.slot) (sym c.all_pins-pins.ensures.value) ∙ slice_get-get_or c.all_pins-pins.result.now c.in-Some.slot no_slot low;
      key = eqb-false pin.key 0 (has_key c.args.key c.all_pins-pins.result.now pin found);
    }

pub returns-in-None-clause-value : goal.returns-in-None-clause-value
returns-in-None-clause-value c =
    sym (pin_in_slots c.args.loaded.now c.args.key ∙ ap (λ (pins : List PinSlot). option_map pin_state (find (is_key c.args.key) pins)) (sym c.all_pins-pins.ensures.value)
    ∙ ap (option_map pin_state) (found_nowhere (is_key c.args.key) c.all_pins-pins.result.now (sym c.slot_of.ensures ∙ c.in-None.is)))

pub returns-in-Some-clause-key : goal.returns-in-Some-clause-key
returns-in-Some-clause-key c =
    let is = sym c.slot_of.ensures ∙ c.in-Some.is in
    let found = found_at (is_key c.args.key) c.all_pins-pins.result.now c.in-Some.slot no_slot is in
    its_key c.args.key c.all_pins-pins.result.now (get_or c.all_pins-pins.result.now c.in-Some.slot no_slot) found
