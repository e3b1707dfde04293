-- Whatever change a right value brings, it gives all tries back; each of the four endings is told by the PIN that the slot shows then.
use Rattle.std.proofs.Common.{◌-◌, refl, sym, ◌∙◌, arith, bytes_eq}
use Rattle.uicc_types.specs.declared.answers.TheConstants.StatusWord.{DONE}
use Rattle.card_state.specs.States.{pin_state}
use Rattle.card_state.specs.Memory.{memory}
use Rattle.file_model.specs.Pins.{pin_presented}
use Rattle.card_commits.specs.declared.pins.PinChange.TheVariants.{Tries}
use Rattle.card_commits.specs.Entries.{pin_at}
use Rattle.card_commits.specs.Pins.{changed_pin, fields_of}
use Rattle.pin_rules.proofs.IsTriedLemmas.{first_failed, was_wrong, second_failed, was_right}
use Rattle.pin_rules.proofs.PresentPinLemmas.{sound_pin, tries_shown, tries_there, restored_shown}
use Rattle.pin_rules.proofs.PutsLemmas.{key_before, key_after_tries, first_stops, wrong_writes, second_stops, right_writes}
use Rattle.pin_rules.proofs.presenting.present_pin.Goals as goal

pub change_pin-requires-clause-tries : goal.change_pin-requires-clause-tries
change_pin-requires-clause-tries g c = omega (arith, (sound_pin c.cards_are_known.ensures.card c.cards_are_known.ensures.pins _ _ c.args.loaded.now c.args.held.now.slot c.args.held.now.pin c.requires.held c.requires.mounted.agrees).tries)

pub returns-in_err-change_pin-clause-tried : goal.returns-in_err-change_pin-clause-tried
unfolding pin_presented
returns-in_err-change_pin-clause-tried g c =
    first_failed c.tables_tell_states.ensures (memory g.S.Store c.args.store.now c.args.loaded.now) c.requires.mounted c.args.verified.now c.args.right
    (record (pin_state c.args.held.now.pin) { tries = c.args.held.now.pin.tries - 1 }) (record (pin_state (changed_pin c.args.change c.args.held.now.pin)) { tries = 3 }) (c.args.held.now.pin.tries - 1) (bytes_eq c.args.value.now c.args.held.now.pin.value.0)
    (Tries (c.args.held.now.pin.tries - 1)) (pin_at c.args.loaded.now c.args.held.now.slot) (tries_shown c.args.loaded.now c.change_pin.new.loaded c.args.held.now.slot (c.args.held.now.pin.tries - 1) c.args.held.now.pin c.requires.held)
    (memory g.S.Store c.change_pin.new.store c.change_pin.new.loaded) _ c.in_err-change_pin.ensures.committed c.in_err-change_pin.ensures.kept c.from_residual.result c.from_residual.ensures.0

pub returns-then-not-is_value-clause-tried : goal.returns-then-not-is_value-clause-tried
unfolding pin_presented
returns-then-not-is_value-clause-tried g c =
    was_wrong c.tables_tell_states.ensures (memory g.S.Store c.args.store.now c.args.loaded.now) c.requires.mounted c.args.verified.now c.args.right
    (record (pin_state c.args.held.now.pin) { tries = c.args.held.now.pin.tries - 1 }) (record (pin_state (changed_pin c.args.change c.args.held.now.pin)) { tries = 3 }) (c.args.held.now.pin.tries - 1) (bytes_eq c.args.value.now c.args.held.now.pin.value.0)
    (Tries (c.args.held.now.pin.tries - 1)) (pin_at c.args.loaded.now c.args.held.now.slot) (tries_shown c.args.loaded.now c.change_pin.new.loaded c.args.held.now.slot (c.args.held.now.pin.tries - 1) c.args.held.now.pin c.requires.held)
    (memory g.S.Store c.change_pin.new.store c.change_pin.new.loaded) c.in_ok-change_pin.ensures.committed c.in_ok-change_pin.ensures.pins (sym c.is_value.ensures ∙ c.if-not-is_value.true) c.tries_left.result c.marked.result c.tries_left.ensures.value c.tries_left.ensures.usual c.marked.ensures

pub change_pin-requires-2-clause-pin : goal.change_pin-requires-2-clause-pin
change_pin-requires-2-clause-pin g c = tries_there c.args.loaded.now c.change_pin.new.loaded c.args.held.now.slot (c.args.held.now.pin.tries - 1) c.args.held.now.pin c.requires.held c.in_ok-change_pin.ensures.table

pub returns-in_err-change_pin-2-clause-tried : goal.returns-in_err-change_pin-2-clause-tried
unfolding pin_presented
returns-in_err-change_pin-2-clause-tried g c =
    second_failed c.tables_tell_states.ensures (memory g.S.Store c.args.store.now c.args.loaded.now) c.requires.mounted c.args.verified.now c.args.right
    (record (pin_state c.args.held.now.pin) { tries = c.args.held.now.pin.tries - 1 }) (record (pin_state (changed_pin c.args.change c.args.held.now.pin)) { tries = 3 }) (c.args.held.now.pin.tries - 1) (bytes_eq c.args.value.now c.args.held.now.pin.value.0)
    (Tries (c.args.held.now.pin.tries - 1)) (pin_at c.args.loaded.now c.args.held.now.slot) (tries_shown c.args.loaded.now c.change_pin.new.loaded c.args.held.now.slot (c.args.held.now.pin.tries - 1) c.args.held.now.pin c.requires.held)
    (memory g.S.Store c.change_pin.new.store c.change_pin.new.loaded) c.in_ok-change_pin.ensures.committed c.in_ok-change_pin.ensures.pins (sym c.is_value.ensures ∙ c.if-not-is_value.false) c.args.change (pin_at c.change_pin.new.loaded c.args.held.now.slot) (restored_shown c.args.loaded.now c.change_pin.new.loaded c.args.held.now.slot (c.args.held.now.pin.tries - 1) c.args.held.now.pin c.requires.held c.args.change c.requires.gives c.in_ok-change_pin.ensures.table)
    (memory g.S.Store c.change_pin-2.new.store c.change_pin-2.new.loaded) _ c.in_err-change_pin-2.ensures.committed c.in_err-change_pin-2.ensures.kept c.from_residual-in_err-change_pin-2.result c.from_residual-in_err-change_pin-2.ensures.0

pub returns-clause-tried : goal.returns-clause-tried
unfolding pin_presented
returns-clause-tried g c =
    was_right c.tables_tell_states.ensures (memory g.S.Store c.args.store.now c.args.loaded.now) c.requires.mounted c.args.verified.now c.args.right
    (record (pin_state c.args.held.now.pin) { tries = c.args.held.now.pin.tries - 1 }) (record (pin_state (changed_pin c.args.change c.args.held.now.pin)) { tries = 3 }) (c.args.held.now.pin.tries - 1) (bytes_eq c.args.value.now c.args.held.now.pin.value.0)
    (Tries (c.args.held.now.pin.tries - 1)) (pin_at c.args.loaded.now c.args.held.now.slot) (tries_shown c.args.loaded.now c.change_pin.new.loaded c.args.held.now.slot (c.args.held.now.pin.tries - 1) c.args.held.now.pin c.requires.held)
    (memory g.S.Store c.change_pin.new.store c.change_pin.new.loaded) c.in_ok-change_pin.ensures.committed c.in_ok-change_pin.ensures.pins (sym c.is_value.ensures ∙ c.if-not-is_value.false) c.args.change (pin_at c.change_pin.new.loaded c.args.held.now.slot) (restored_shown c.args.loaded.now c.change_pin.new.loaded c.args.held.now.slot (c.args.held.now.pin.tries - 1) c.args.held.now.pin c.requires.held c.args.change c.requires.gives c.in_ok-change_pin.ensures.table)
    (memory g.S.Store c.change_pin-2.new.store c.change_pin-2.new.loaded) c.in_ok-change_pin-2.ensures.committed c.in_ok-change_pin-2.ensures.pins c.args.right refl

pub returns-in_err-change_pin-clause-writes : goal.returns-in_err-change_pin-clause-writes
unfolding pin_presented
returns-in_err-change_pin-clause-writes g c =
    first_stops (memory g.S.Store c.args.store.now c.args.loaded.now) c.args.verified.now c.args.right
    (record (pin_state c.args.held.now.pin) { tries = c.args.held.now.pin.tries - 1 }) (record (pin_state (changed_pin c.args.change c.args.held.now.pin)) { tries = 3 }) (c.args.held.now.pin.tries - 1) (bytes_eq c.args.value.now c.args.held.now.pin.value.0) (fields_of c.args.change) c.args.held.now.pin.key
    (Tries (c.args.held.now.pin.tries - 1)) (pin_at c.args.loaded.now c.args.held.now.slot) (key_before c.args.loaded.now c.args.loaded.now c.args.held.now.slot (c.args.held.now.pin.tries - 1) c.args.held.now.pin c.requires.held) (tries_shown c.args.loaded.now c.change_pin.new.loaded c.args.held.now.slot (c.args.held.now.pin.tries - 1) c.args.held.now.pin c.requires.held)
    (memory g.S.Store c.change_pin.new.store c.change_pin.new.loaded) _ c.in_err-change_pin.ensures.writes c.in_err-change_pin.ensures.committed.commits c.from_residual.result c.from_residual.ensures.0

pub returns-then-not-is_value-clause-writes : goal.returns-then-not-is_value-clause-writes
unfolding pin_presented
returns-then-not-is_value-clause-writes g c =
    wrong_writes (memory g.S.Store c.args.store.now c.args.loaded.now) c.args.verified.now c.args.right
    (record (pin_state c.args.held.now.pin) { tries = c.args.held.now.pin.tries - 1 }) (record (pin_state (changed_pin c.args.change c.args.held.now.pin)) { tries = 3 }) (c.args.held.now.pin.tries - 1) (bytes_eq c.args.value.now c.args.held.now.pin.value.0) (fields_of c.args.change) c.args.held.now.pin.key
    (Tries (c.args.held.now.pin.tries - 1)) (pin_at c.args.loaded.now c.args.held.now.slot) (key_before c.args.loaded.now c.args.loaded.now c.args.held.now.slot (c.args.held.now.pin.tries - 1) c.args.held.now.pin c.requires.held) (tries_shown c.args.loaded.now c.change_pin.new.loaded c.args.held.now.slot (c.args.held.now.pin.tries - 1) c.args.held.now.pin c.requires.held)
    (memory g.S.Store c.change_pin.new.store c.change_pin.new.loaded) c.in_ok-change_pin.ensures.writes (sym c.is_value.ensures ∙ c.if-not-is_value.true) c.tries_left.result

pub returns-in_err-change_pin-2-clause-writes : goal.returns-in_err-change_pin-2-clause-writes
unfolding pin_presented
returns-in_err-change_pin-2-clause-writes g c =
    second_stops (memory g.S.Store c.args.store.now c.args.loaded.now) c.args.verified.now c.args.right
    (record (pin_state c.args.held.now.pin) { tries = c.args.held.now.pin.tries - 1 }) (record (pin_state (changed_pin c.args.change c.args.held.now.pin)) { tries = 3 }) (c.args.held.now.pin.tries - 1) (bytes_eq c.args.value.now c.args.held.now.pin.value.0) (fields_of c.args.change) c.args.held.now.pin.key
    (Tries (c.args.held.now.pin.tries - 1)) (pin_at c.args.loaded.now c.args.held.now.slot) (key_before c.args.loaded.now c.args.loaded.now c.args.held.now.slot (c.args.held.now.pin.tries - 1) c.args.held.now.pin c.requires.held) (tries_shown c.args.loaded.now c.change_pin.new.loaded c.args.held.now.slot (c.args.held.now.pin.tries - 1) c.args.held.now.pin c.requires.held)
    (memory g.S.Store c.change_pin.new.store c.change_pin.new.loaded) c.in_ok-change_pin.ensures.writes (sym c.is_value.ensures ∙ c.if-not-is_value.false) c.in_ok-change_pin.ensures.pins c.args.change refl (pin_at c.change_pin.new.loaded c.args.held.now.slot) (key_after_tries c.args.loaded.now c.change_pin.new.loaded c.args.held.now.slot (c.args.held.now.pin.tries - 1) c.args.held.now.pin c.requires.held c.in_ok-change_pin.ensures.table) (restored_shown c.args.loaded.now c.change_pin.new.loaded c.args.held.now.slot (c.args.held.now.pin.tries - 1) c.args.held.now.pin c.requires.held c.args.change c.requires.gives c.in_ok-change_pin.ensures.table)
    (memory g.S.Store c.change_pin-2.new.store c.change_pin-2.new.loaded) _ c.in_err-change_pin-2.ensures.writes c.in_ok-change_pin.ensures.committed.commits c.in_err-change_pin-2.ensures.committed.commits c.from_residual-in_err-change_pin-2.result c.from_residual-in_err-change_pin-2.ensures.0

pub returns-clause-writes : goal.returns-clause-writes
unfolding pin_presented
returns-clause-writes g c =
    right_writes (memory g.S.Store c.args.store.now c.args.loaded.now) c.args.verified.now c.args.right
    (record (pin_state c.args.held.now.pin) { tries = c.args.held.now.pin.tries - 1 }) (record (pin_state (changed_pin c.args.change c.args.held.now.pin)) { tries = 3 }) (c.args.held.now.pin.tries - 1) (bytes_eq c.args.value.now c.args.held.now.pin.value.0) (fields_of c.args.change) c.args.held.now.pin.key
    (Tries (c.args.held.now.pin.tries - 1)) (pin_at c.args.loaded.now c.args.held.now.slot) (key_before c.args.loaded.now c.args.loaded.now c.args.held.now.slot (c.args.held.now.pin.tries - 1) c.args.held.now.pin c.requires.held) (tries_shown c.args.loaded.now c.change_pin.new.loaded c.args.held.now.slot (c.args.held.now.pin.tries - 1) c.args.held.now.pin c.requires.held)
    (memory g.S.Store c.change_pin.new.store c.change_pin.new.loaded) c.in_ok-change_pin.ensures.writes (sym c.is_value.ensures ∙ c.if-not-is_value.false) c.in_ok-change_pin.ensures.pins c.args.change refl (pin_at c.change_pin.new.loaded c.args.held.now.slot) (key_after_tries c.args.loaded.now c.change_pin.new.loaded c.args.held.now.slot (c.args.held.now.pin.tries - 1) c.args.held.now.pin c.requires.held c.in_ok-change_pin.ensures.table) (restored_shown c.args.loaded.now c.change_pin.new.loaded c.args.held.now.slot (c.args.held.now.pin.tries - 1) c.args.held.now.pin c.requires.held c.args.change c.requires.gives c.in_ok-change_pin.ensures.table)
    (memory g.S.Store c.change_pin-2.new.store c.change_pin-2.new.loaded) c.in_ok-change_pin-2.ensures.writes DONE
