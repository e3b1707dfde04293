use Rattle.std.proofs.Common.{List, set, subst, arith, Ok, Err}
use Rattle.card_state.specs.Persistent.{Pin}
use Rattle.card_state.specs.declared.entries.PinSlot.{PinSlot}
use Rattle.card_state.specs.declared.faults.SectionFault.TheVariants.{Bad}
use Rattle.layout_section.specs.Adding.{AddsPin, new_pin}
use Rattle.layout_section.proofs.PinSlotsLemmas.{pins_in, pin_added, pin_refused, no_slot}
use Rattle.layout_section.proofs.pins.Pins.add.Goals as goal

pub returns-in_default : goal.returns-in_default
returns-in_default c = no_slot c.args.self.now (new_pin c.args.key c.args.value.0 c.args.enabled c.args.unblock.0) c.in_default.ensures

pub returns-then-self-slot-ne0 : goal.returns-then-self-slot-ne0
returns-then-self-slot-ne0 c =
    let pin : PinSlot = record { key = c.args.key; enabled = c.args.enabled; tries = 3; unblock_tries = 10; value = c.args.value; unblock = c.args.unblock } in
    subst (λ (old : List Pin). AddsPin (new_pin c.args.key c.args.value.0 c.args.enabled c.args.unblock.0) old (Err Bad) old) c.self.view_is
    (pin_refused c.self.inside.slots c.in-Some.slot pin _ (omega arith) c.self.invariant c.in-Some.ensures.low c.in-Some.ensures.own c.in-Some.ensures.may c.if-self-slot-ne0.true)

pub returns : goal.returns
returns c =
    let pin : PinSlot = record { key = c.args.key; enabled = c.args.enabled; tries = 3; unblock_tries = 10; value = c.args.value; unblock = c.args.unblock } in
    subst (λ (old : List Pin). AddsPin (new_pin c.args.key c.args.value.0 c.args.enabled c.args.unblock.0) old (Ok tt) (pins_in (set c.self.inside.slots c.in-Some.slot pin))) c.self.view_is
    (pin_added c.self.inside.slots c.in-Some.slot pin _ (omega arith) c.self.invariant c.in-Some.ensures.low c.in-Some.ensures.own c.in-Some.ensures.may c.if-self-slot-ne0.false)
