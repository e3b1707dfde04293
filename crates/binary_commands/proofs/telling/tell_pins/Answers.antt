use Rattle.std.proofs.Common.{◌+◌, List, sym, ap, ◌∙◌, subst}
use Rattle.card_state.specs.declared.entries.PinSlot.{PinSlot}
use Rattle.card_state.specs.States.{pins_of}
use Rattle.file_model.specs.Fcp.{enabled_bits}
use Rattle.binary_commands.specs.Telling.{key_objects, pins_in}
use Rattle.binary_commands.proofs.PinToldLemmas.{AreTold, one_told, all_enabled, all_keys}
use Rattle.binary_commands.proofs.telling.tell_pins.Goals as goal

pub loop-pin-preserved : goal.loop-pin-preserved
loop-pin-preserved c = subst (AreTold c.all_pins-pin-items.result.now (c.loop-pin.pin-index + 1)) (sym c.tell_pin.ensures) (one_told _ _ _ _ c.loop-pin-test.true c.loop-pin.invariant)

pub returns-clause-enabled : goal.returns-clause-enabled
unfolding pins_of
returns-clause-enabled c =
    all_enabled _ _ _ c.loop-pin-test.false c.loop-pin.invariant ∙ ap (λ (slots : List PinSlot). enabled_bits 0x80 (pins_in slots)) c.all_pins-pin-items.ensures.value

pub returns-clause-keys : goal.returns-clause-keys
unfolding pins_of
returns-clause-keys c =
    all_keys _ _ _ c.loop-pin-test.false c.loop-pin.invariant ∙ ap (λ (slots : List PinSlot). key_objects (pins_in slots)) c.all_pins-pin-items.ensures.value
