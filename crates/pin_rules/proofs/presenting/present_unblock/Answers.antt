-- The slot shows one unblocking try less after the first commit and the unblocked PIN after the second; a fault may stop either.
use Rattle.std.proofs.Common.{◌-◌, true, sym, ◌∙◌, arith, bytes_eq, refl}
use Rattle.uicc_types.specs.declared.answers.TheConstants.StatusWord.{DONE}
use Rattle.card_state.specs.States.{pin_state}
use Rattle.card_state.specs.Memory.{memory}
use Rattle.card_state.specs.Changes.{OfUnblocking}
use Rattle.file_model.specs.Pins.{marked, unblock_presented}
use Rattle.card_commits.specs.declared.pins.PinChange.TheVariants.{UnblockTries, Unblocked}
use Rattle.card_commits.specs.Entries.{pin_at}
use Rattle.card_commits.specs.Pins.{changed_pin}
use Rattle.pin_rules.proofs.IsTriedLemmas.{first_failed, was_wrong, second_failed, was_right}
use Rattle.pin_rules.proofs.PresentPinLemmas.{sound_pin, unblock_shown, unblock_there, unblocked_shown}
use Rattle.pin_rules.proofs.PutsLemmas.{key_before, key_after_unblock, first_stops, wrong_writes, second_stops, right_writes}
use Rattle.pin_rules.proofs.presenting.present_unblock.Goals as goal

pub change_pin-requires-clause-tries : goal.change_pin-requires-clause-tries
change_pin-requires-clause-tries g c = omega (arith, (sound_pin c.cards_are_known.ensures.card c.cards_are_known.ensures.pins _ _ c.args.loaded.now c.args.held.now.slot c.args.held.now.pin c.requires.held c.requires.mounted.agrees).unblock_tries)

pub returns-in_err-change_pin-clause-tried : goal.returns-in_err-change_pin-clause-tried
unfolding unblock_presented
returns-in_err-change_pin-clause-tried g c =
    first_failed c.tables_tell_states.ensures (memory g.S.Store c.args.store.now c.args.loaded.now) c.requires.mounted c.args.verified.now (marked c.args.verified.now c.args.held.now.pin.key true)
    (record (pin_state c.args.held.now.pin) { unblock_tries = c.args.held.now.pin.unblock_tries - 1 }) (record (pin_state (changed_pin (Unblocked c.args.new) c.args.held.now.pin)) { tries = 3; unblock_tries = 10 }) (c.args.held.now.pin.unblock_tries - 1) (bytes_eq c.args.value.now c.args.held.now.pin.unblock.0)
    (UnblockTries (c.args.held.now.pin.unblock_tries - 1)) (pin_at c.args.loaded.now c.args.held.now.slot) (unblock_shown c.args.loaded.now c.change_pin.new.loaded c.args.held.now.slot (c.args.held.now.pin.unblock_tries - 1) c.args.held.now.pin c.requires.held)
    (memory g.S.Store c.change_pin.new.store c.change_pin.new.loaded) _ c.in_err-change_pin.ensures.committed c.in_err-change_pin.ensures.kept c.from_residual.result c.from_residual.ensures.0

pub returns-then-not-is_value-clause-tried : goal.returns-then-not-is_value-clause-tried
unfolding unblock_presented
returns-then-not-is_value-clause-tried g c =
    was_wrong c.tables_tell_states.ensures (memory g.S.Store c.args.store.now c.args.loaded.now) c.requires.mounted c.args.verified.now (marked c.args.verified.now c.args.held.now.pin.key true)
    (record (pin_state c.args.held.now.pin) { unblock_tries = c.args.held.now.pin.unblock_tries - 1 }) (record (pin_state (changed_pin (Unblocked c.args.new) c.args.held.now.pin)) { tries = 3; unblock_tries = 10 }) (c.args.held.now.pin.unblock_tries - 1) (bytes_eq c.args.value.now c.args.held.now.pin.unblock.0)
    (UnblockTries (c.args.held.now.pin.unblock_tries - 1)) (pin_at c.args.loaded.now c.args.held.now.slot) (unblock_shown c.args.loaded.now c.change_pin.new.loaded c.args.held.now.slot (c.args.held.now.pin.unblock_tries - 1) c.args.held.now.pin c.requires.held)
    (memory g.S.Store c.change_pin.new.store c.change_pin.new.loaded) c.in_ok-change_pin.ensures.committed c.in_ok-change_pin.ensures.pins (sym c.is_value.ensures ∙ c.if-not-is_value.true) c.tries_left.result c.marked.result c.tries_left.ensures.value c.tries_left.ensures.usual c.marked.ensures

pub change_pin-requires-2-clause-pin : goal.change_pin-requires-2-clause-pin
change_pin-requires-2-clause-pin g c = unblock_there c.args.loaded.now c.change_pin.new.loaded c.args.held.now.slot (c.args.held.now.pin.unblock_tries - 1) c.args.held.now.pin c.requires.held c.in_ok-change_pin.ensures.table

pub returns-in_err-change_pin-2-clause-tried : goal.returns-in_err-change_pin-2-clause-tried
unfolding unblock_presented
returns-in_err-change_pin-2-clause-tried g c =
    second_failed c.tables_tell_states.ensures (memory g.S.Store c.args.store.now c.args.loaded.now) c.requires.mounted c.args.verified.now (marked c.args.verified.now c.args.held.now.pin.key true)
    (record (pin_state c.args.held.now.pin) { unblock_tries = c.args.held.now.pin.unblock_tries - 1 }) (record (pin_state (changed_pin (Unblocked c.args.new) c.args.held.now.pin)) { tries = 3; unblock_tries = 10 }) (c.args.held.now.pin.unblock_tries - 1) (bytes_eq c.args.value.now c.args.held.now.pin.unblock.0)
    (UnblockTries (c.args.held.now.pin.unblock_tries - 1)) (pin_at c.args.loaded.now c.args.held.now.slot) (unblock_shown c.args.loaded.now c.change_pin.new.loaded c.args.held.now.slot (c.args.held.now.pin.unblock_tries - 1) c.args.held.now.pin c.requires.held)
    (memory g.S.Store c.change_pin.new.store c.change_pin.new.loaded) c.in_ok-change_pin.ensures.committed c.in_ok-change_pin.ensures.pins (sym c.is_value.ensures ∙ c.if-not-is_value.false) (Unblocked c.args.new) (pin_at c.change_pin.new.loaded c.args.held.now.slot) (unblocked_shown c.args.loaded.now c.change_pin.new.loaded c.args.held.now.slot (c.args.held.now.pin.unblock_tries - 1) c.args.held.now.pin c.requires.held c.args.new c.in_ok-change_pin.ensures.table)
    (memory g.S.Store c.change_pin-2.new.store c.change_pin-2.new.loaded) _ c.in_err-change_pin-2.ensures.committed c.in_err-change_pin-2.ensures.kept c.from_residual-in_err-change_pin-2.result c.from_residual-in_err-change_pin-2.ensures.0

pub returns-clause-tried : goal.returns-clause-tried
unfolding unblock_presented
returns-clause-tried g c =
    was_right c.tables_tell_states.ensures (memory g.S.Store c.args.store.now c.args.loaded.now) c.requires.mounted c.args.verified.now (marked c.args.verified.now c.args.held.now.pin.key true)
    (record (pin_state c.args.held.now.pin) { unblock_tries = c.args.held.now.pin.unblock_tries - 1 }) (record (pin_state (changed_pin (Unblocked c.args.new) c.args.held.now.pin)) { tries = 3; unblock_tries = 10 }) (c.args.held.now.pin.unblock_tries - 1) (bytes_eq c.args.value.now c.args.held.now.pin.unblock.0)
    (UnblockTries (c.args.held.now.pin.unblock_tries - 1)) (pin_at c.args.loaded.now c.args.held.now.slot) (unblock_shown c.args.loaded.now c.change_pin.new.loaded c.args.held.now.slot (c.args.held.now.pin.unblock_tries - 1) c.args.held.now.pin c.requires.held)
    (memory g.S.Store c.change_pin.new.store c.change_pin.new.loaded) c.in_ok-change_pin.ensures.committed c.in_ok-change_pin.ensures.pins (sym c.is_value.ensures ∙ c.if-not-is_value.false) (Unblocked c.args.new) (pin_at c.change_pin.new.loaded c.args.held.now.slot) (unblocked_shown c.args.loaded.now c.change_pin.new.loaded c.args.held.now.slot (c.args.held.now.pin.unblock_tries - 1) c.args.held.now.pin c.requires.held c.args.new c.in_ok-change_pin.ensures.table)
    (memory g.S.Store c.change_pin-2.new.store c.change_pin-2.new.loaded) c.in_ok-change_pin-2.ensures.committed c.in_ok-change_pin-2.ensures.pins c.marked-2.result c.marked-2.ensures

pub returns-in_err-change_pin-clause-writes : goal.returns-in_err-change_pin-clause-writes
unfolding unblock_presented
returns-in_err-change_pin-clause-writes g c =
    first_stops (memory g.S.Store c.args.store.now c.args.loaded.now) c.args.verified.now (marked c.args.verified.now c.args.held.now.pin.key true)
    (record (pin_state c.args.held.now.pin) { unblock_tries = c.args.held.now.pin.unblock_tries - 1 }) (record (pin_state (changed_pin (Unblocked c.args.new) c.args.held.now.pin)) { tries = 3; unblock_tries = 10 }) (c.args.held.now.pin.unblock_tries - 1) (bytes_eq c.args.value.now c.args.held.now.pin.unblock.0) OfUnblocking c.args.held.now.pin.key
    (UnblockTries (c.args.held.now.pin.unblock_tries - 1)) (pin_at c.args.loaded.now c.args.held.now.slot) (key_before c.args.loaded.now c.args.loaded.now c.args.held.now.slot (c.args.held.now.pin.unblock_tries - 1) c.args.held.now.pin c.requires.held) (unblock_shown c.args.loaded.now c.change_pin.new.loaded c.args.held.now.slot (c.args.held.now.pin.unblock_tries - 1) c.args.held.now.pin c.requires.held)
    (memory g.S.Store c.change_pin.new.store c.change_pin.new.loaded) _ c.in_err-change_pin.ensures.writes c.in_err-change_pin.ensures.committed.commits c.from_residual.result c.from_residual.ensures.0

pub returns-then-not-is_value-clause-writes : goal.returns-then-not-is_value-clause-writes
unfolding unblock_presented
returns-then-not-is_value-clause-writes g c =
    wrong_writes (memory g.S.Store c.args.store.now c.args.loaded.now) c.args.verified.now (marked c.args.verified.now c.args.held.now.pin.key true)
    (record (pin_state c.args.held.now.pin) { unblock_tries = c.args.held.now.pin.unblock_tries - 1 }) (record (pin_state (changed_pin (Unblocked c.args.new) c.args.held.now.pin)) { tries = 3; unblock_tries = 10 }) (c.args.held.now.pin.unblock_tries - 1) (bytes_eq c.args.value.now c.args.held.now.pin.unblock.0) OfUnblocking c.args.held.now.pin.key
    (UnblockTries (c.args.held.now.pin.unblock_tries - 1)) (pin_at c.args.loaded.now c.args.held.now.slot) (key_before c.args.loaded.now c.args.loaded.now c.args.held.now.slot (c.args.held.now.pin.unblock_tries - 1) c.args.held.now.pin c.requires.held) (unblock_shown c.args.loaded.now c.change_pin.new.loaded c.args.held.now.slot (c.args.held.now.pin.unblock_tries - 1) c.args.held.now.pin c.requires.held)
    (memory g.S.Store c.change_pin.new.store c.change_pin.new.loaded) c.in_ok-change_pin.ensures.writes (sym c.is_value.ensures ∙ c.if-not-is_value.true) c.tries_left.result

pub returns-in_err-change_pin-2-clause-writes : goal.returns-in_err-change_pin-2-clause-writes
unfolding unblock_presented
returns-in_err-change_pin-2-clause-writes g c =
    second_stops (memory g.S.Store c.args.store.now c.args.loaded.now) c.args.verified.now (marked c.args.verified.now c.args.held.now.pin.key true)
    (record (pin_state c.args.held.now.pin) { unblock_tries = c.args.held.now.pin.unblock_tries - 1 }) (record (pin_state (changed_pin (Unblocked c.args.new) c.args.held.now.pin)) { tries = 3; unblock_tries = 10 }) (c.args.held.now.pin.unblock_tries - 1) (bytes_eq c.args.value.now c.args.held.now.pin.unblock.0) OfUnblocking c.args.held.now.pin.key
    (UnblockTries (c.args.held.now.pin.unblock_tries - 1)) (pin_at c.args.loaded.now c.args.held.now.slot) (key_before c.args.loaded.now c.args.loaded.now c.args.held.now.slot (c.args.held.now.pin.unblock_tries - 1) c.args.held.now.pin c.requires.held) (unblock_shown c.args.loaded.now c.change_pin.new.loaded c.args.held.now.slot (c.args.held.now.pin.unblock_tries - 1) c.args.held.now.pin c.requires.held)
    (memory g.S.Store c.change_pin.new.store c.change_pin.new.loaded) c.in_ok-change_pin.ensures.writes (sym c.is_value.ensures ∙ c.if-not-is_value.false) c.in_ok-change_pin.ensures.pins (Unblocked c.args.new) refl (pin_at c.change_pin.new.loaded c.args.held.now.slot) (key_after_unblock c.args.loaded.now c.change_pin.new.loaded c.args.held.now.slot (c.args.held.now.pin.unblock_tries - 1) c.args.held.now.pin c.requires.held c.in_ok-change_pin.ensures.table) (unblocked_shown c.args.loaded.now c.change_pin.new.loaded c.args.held.now.slot (c.args.held.now.pin.unblock_tries - 1) c.args.held.now.pin c.requires.held c.args.new c.in_ok-change_pin.ensures.table)
    (memory g.S.Store c.change_pin-2.new.store c.change_pin-2.new.loaded) _ c.in_err-change_pin-2.ensures.writes c.in_ok-change_pin.ensures.committed.commits c.in_err-change_pin-2.ensures.committed.commits c.from_residual-in_err-change_pin-2.result c.from_residual-in_err-change_pin-2.ensures.0

pub returns-clause-writes : goal.returns-clause-writes
unfolding unblock_presented
returns-clause-writes g c =
    right_writes (memory g.S.Store c.args.store.now c.args.loaded.now) c.args.verified.now (marked c.args.verified.now c.args.held.now.pin.key true)
    (record (pin_state c.args.held.now.pin) { unblock_tries = c.args.held.now.pin.unblock_tries - 1 }) (record (pin_state (changed_pin (Unblocked c.args.new) c.args.held.now.pin)) { tries = 3; unblock_tries = 10 }) (c.args.held.now.pin.unblock_tries - 1) (bytes_eq c.args.value.now c.args.held.now.pin.unblock.0) OfUnblocking c.args.held.now.pin.key
    (UnblockTries (c.args.held.now.pin.unblock_tries - 1)) (pin_at c.args.loaded.now c.args.held.now.slot) (key_before c.args.loaded.now c.args.loaded.now c.args.held.now.slot (c.args.held.now.pin.unblock_tries - 1) c.args.held.now.pin c.requires.held) (unblock_shown c.args.loaded.now c.change_pin.new.loaded c.args.held.now.slot (c.args.held.now.pin.unblock_tries - 1) c.args.held.now.pin c.requires.held)
    (memory g.S.Store c.change_pin.new.store c.change_pin.new.loaded) c.in_ok-change_pin.ensures.writes (sym c.is_value.ensures ∙ c.if-not-is_value.false) c.in_ok-change_pin.ensures.pins (Unblocked c.args.new) refl (pin_at c.change_pin.new.loaded c.args.held.now.slot) (key_after_unblock c.args.loaded.now c.change_pin.new.loaded c.args.held.now.slot (c.args.held.now.pin.unblock_tries - 1) c.args.held.now.pin c.requires.held c.in_ok-change_pin.ensures.table) (unblocked_shown c.args.loaded.now c.change_pin.new.loaded c.args.held.now.slot (c.args.held.now.pin.unblock_tries - 1) c.args.held.now.pin c.requires.held c.args.new c.in_ok-change_pin.ensures.table)
    (memory g.S.Store c.change_pin-2.new.store c.change_pin-2.new.loaded) c.in_ok-change_pin-2.ensures.writes DONE
