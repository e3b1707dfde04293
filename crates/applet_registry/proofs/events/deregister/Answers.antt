use Rattle.std.proofs.Common.{◌≡◌, sym, subst, ◌↔◌, Bool, false}
use Rattle.card_state.specs.States.{rows_of}
use Rattle.toolkit_model.specs.Registry.{without_code}
use Rattle.applet_registry.proofs.WithChangedLemmas.{deregistering_changes}
use Rattle.applet_registry.proofs.events.deregister.Goals as goal

pub returns-then-is_event-clause-change : goal.returns-then-is_event-clause-change
returns-then-is_event-clause-change c =
    let laws = c.states_are_of_entries.ensures in let rows = rows_of c.args.loaded.now in
    subst (λ (b : Bool). (b ≡ false) ↔ (without_code rows c.args.shelf.0 c.args.code ≡ rows)) (sym c.is_registered.ensures)
    (deregistering_changes c.args.loaded.now laws.rows laws.from.rows laws.tables c.args.shelf.0 c.args.code)
