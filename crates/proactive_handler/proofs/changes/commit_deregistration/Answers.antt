use Rattle.std.proofs.Common.{refl, ◌∙◌, List}
use Rattle.card_state.specs.Changes.{PutEvents}
use Rattle.card_state.specs.Changing.{without_code_committed}
use Rattle.card_state.specs.Memory.{memory}
use Rattle.card_state.specs.Persistent.{Registration}
use Rattle.card_state.specs.States.{rows_of}
use Rattle.card_commits.specs.Rows.{rows_alone}
use Rattle.applet_trait.specs.declared.stimuli.Act.TheVariants.{Deregister}
use Rattle.toolkit_model.specs.Registry.{without_code}
use Rattle.event_dispatch.proofs.CommitsLemmas.{deregisters_code}
use Rattle.proactive_handler.proofs.StandsForLemmas.{removed_follows, rows_alone_differ}
use Rattle.proactive_handler.proofs.CarriedLemmas.{deregister_goes}
use Rattle.proactive_handler.proofs.CodesOnLemmas.{puts_less}
use Rattle.proactive_handler.proofs.HasRowOnLemmas.{rows_stay, rows_as_before}
use Rattle.proactive_handler.proofs.WithTheseRowsLemmas.{registers_less, commit_stands, commit_stops}
use Rattle.proactive_handler.proofs.RowsAreListedLemmas.{rows_listed}
use Rattle.proactive_handler.proofs.changes.commit_deregistration.Goals as goal

pub returns-in_err-deregister-clause-carries : goal.returns-in_err-deregister-clause-carries
returns-in_err-deregister-clause-carries g c = λ at timers mind here.
    commit_stops c.tables_tell_states.ensures (memory g.S.Store c.args.store.now c.args.loaded.now) c.requires.may_run.mounted.agrees at (Deregister c.args.code) timers mind (without_code_committed c.args.shelf.0 c.args.code) (λ (rows : List Registration). without_code rows c.args.shelf.0 c.args.code) (registers_less c.args.shelf.0 c.args.code) (deregister_goes at _ c.args.shelf.0 here c.args.code c.requires.changes) (PutEvents c.args.shelf.0 c.in_err-deregister.ensures.writes.events) (puts_less c.args.loaded.now c.args.shelf.0 c.states_are_of_entries.ensures.tables c.states_are_of_entries.ensures.rows c.requires.may_run.row at.shelf here c.args.code c.in_err-deregister.ensures.writes.events c.in_err-deregister.ensures.writes.low c.in_err-deregister.ensures.writes.codes_are) (memory g.S.Store c.deregister.new.store c.deregister.new.loaded) c.from_residual.result c.from_residual.ensures.0 c.in_err-deregister.ensures.kept c.in_err-deregister.ensures.committed.whole c.in_err-deregister.ensures.committed.commits c.in_err-deregister.ensures.writes.writes.whole

pub returns-in_err-deregister-clause-table : goal.returns-in_err-deregister-clause-table
returns-in_err-deregister-clause-table g c = rows_alone_differ c.args.loaded.now c.deregister.new.loaded c.args.loaded.now.rows c.in_err-deregister.ensures.kept

pub returns-clause-carries : goal.returns-clause-carries
returns-clause-carries g c = λ at timers mind here.
    commit_stands c.tables_tell_states.ensures (memory g.S.Store c.args.store.now c.args.loaded.now) c.requires.may_run.mounted.agrees at (Deregister c.args.code) timers mind (without_code_committed c.args.shelf.0 c.args.code) (λ (rows : List Registration). without_code rows c.args.shelf.0 c.args.code) (registers_less c.args.shelf.0 c.args.code) (deregister_goes at _ c.args.shelf.0 here c.args.code c.requires.changes) (PutEvents c.args.shelf.0 c.in_ok-deregister.ensures.writes.events) (puts_less c.args.loaded.now c.args.shelf.0 c.states_are_of_entries.ensures.tables c.states_are_of_entries.ensures.rows c.requires.may_run.row at.shelf here c.args.code c.in_ok-deregister.ensures.writes.events c.in_ok-deregister.ensures.writes.low c.in_ok-deregister.ensures.writes.codes_are) (memory g.S.Store c.deregister.new.store c.deregister.new.loaded) c.in_ok-deregister.ensures.committed.ok c.in_ok-deregister.ensures.committed.commits c.in_ok-deregister.ensures.writes.writes.ok
    (c.in_ok-deregister.ensures.rows ∙ deregisters_code (rows_alone c.args.loaded.now) c.args.shelf.0 c.args.code)

pub returns-clause-table : goal.returns-clause-table
returns-clause-table g c = rows_alone_differ c.args.loaded.now c.deregister.new.loaded _ c.in_ok-deregister.ensures.table

pub returns-clause-rows_stay : goal.returns-clause-rows_stay
returns-clause-rows_stay g c = rows_stay c.args.loaded.now c.deregister.new.loaded c.args.shelf.0 _ c.in_ok-deregister.ensures.table c.requires.may_run.row refl

pub returns-in_err-deregister-clause-rows_stay : goal.returns-in_err-deregister-clause-rows_stay
returns-in_err-deregister-clause-rows_stay g c = rows_as_before c.args.loaded.now c.deregister.new.loaded c.in_err-deregister.ensures.kept

pub returns-clause-indexed : goal.returns-clause-indexed
returns-clause-indexed g c = removed_follows (rows_of c.args.loaded.now) (rows_of c.deregister.new.loaded) c.args.shelf.0 (rows_listed _ _ c.args.loaded.now c.requires.may_run.mounted.agrees) c.args.code c.args.index.now c.removed.new.self c.requires.may_run.indexed
    (c.in_ok-deregister.ensures.rows ∙ deregisters_code (rows_alone c.args.loaded.now) c.args.shelf.0 c.args.code) c.removed.ensures
