use Rattle.std.proofs.Common.{◌≡◌, true, sym, subst, rules, ◌↔◌, Bool, false, not}
use Rattle.card_state.specs.Sections.{is_code}
use Rattle.card_state.specs.States.{rows_of}
use Rattle.toolkit_model.specs.Registry.{with_code}
use Rattle.applet_registry.proofs.WithChangedLemmas.{registering_changes}
use Rattle.applet_registry.proofs.events.register.Goals as goal

pub returns-else-code-eq-CALL_CONTROL-clause-change : goal.returns-else-code-eq-CALL_CONTROL-clause-change
returns-else-code-eq-CALL_CONTROL-clause-change c =
    let laws = c.states_are_of_entries.ensures in let rows = rows_of c.args.loaded.now in
    let known : is_code c.args.code ≡ true = search (rules, c.is_event.ensures, c.if-not-is_event.false) in
    subst (λ (b : Bool). (not b ≡ false) ↔ (with_code rows c.args.shelf.0 c.args.code ≡ rows)) (sym c.is_registered.ensures)
    (registering_changes c.args.loaded.now laws.rows laws.from.rows laws.tables c.args.shelf.0 c.args.code c.event_bits_are_codes.ensures.set known c.requires.row)
