use Rattle.std.proofs.Common.{sym, ◌∙◌}
use Rattle.card_state.specs.Memory.{memory}
use Rattle.applet_trait.specs.declared.stimuli.Stimulus.TheVariants.{Went, Refused}
use Rattle.applet_trait.specs.declared.stimuli.Act.TheVariants.{Deregister}
use Rattle.proactive_handler.proofs.CarriedLemmas.{deregister_rests, deregister_fails}
use Rattle.proactive_handler.proofs.HasRowOnLemmas.{row_shown}
use Rattle.proactive_handler.proofs.WithTheseRowsLemmas.{rests_so}
use Rattle.proactive_handler.proofs.changes.deregister.Goals as goal

pub deregister-requires : goal.deregister-requires
deregister-requires g c = record { row = row_shown c.args.loaded.now c.args.shelf.0 c.states_are_of_entries.ensures.tables c.states_are_of_entries.ensures.rows c.requires.may_run.row }

pub returns-else-is_there-clause-carries : goal.returns-else-is_there-clause-carries
returns-else-is_there-clause-carries g c = λ at timers mind here.
    rests_so c.tables_tell_states.ensures (memory g.S.Store c.args.store.now c.args.loaded.now) c.requires.may_run.mounted.agrees at (Deregister c.args.code) timers mind Went (deregister_rests at _ c.args.shelf.0 here c.args.code c.in-Ok.is_there (sym c.deregister.ensures.answer ∙ c.in-Ok.is) c.if-is_there.false)

pub returns-in-Err-clause-carries : goal.returns-in-Err-clause-carries
returns-in-Err-clause-carries g c = λ at timers mind here.
    rests_so c.tables_tell_states.ensures (memory g.S.Store c.args.store.now c.args.loaded.now) c.requires.may_run.mounted.agrees at (Deregister c.args.code) timers mind Refused (deregister_fails at _ c.args.shelf.0 here c.args.code _ (sym c.deregister.ensures.answer ∙ c.in-Err.is))
