-- The commit registers the row as the session's act does, so the index with the shelf put under this code stands for the rows again.
use Rattle.std.proofs.Common.{refl, ◌∙◌, List}
use Rattle.card_state.specs.Changes.{PutEvents}
use Rattle.card_state.specs.Changing.{with_code_committed}
use Rattle.card_state.specs.Memory.{memory}
use Rattle.card_state.specs.Persistent.{Registration}
use Rattle.card_state.specs.States.{rows_of}
use Rattle.card_commits.specs.Rows.{rows_alone}
use Rattle.applet_trait.specs.declared.stimuli.Act.TheVariants.{Register}
use Rattle.toolkit_model.specs.Registry.{with_code}
use Rattle.event_dispatch.proofs.CommitsLemmas.{registers_code}
use Rattle.proactive_handler.proofs.StandsForLemmas.{added_follows, rows_alone_differ}
use Rattle.proactive_handler.proofs.CarriedLemmas.{register_goes}
use Rattle.proactive_handler.proofs.CodesOnLemmas.{puts_more}
use Rattle.proactive_handler.proofs.HasRowOnLemmas.{row_shown, rows_stay, rows_as_before, registered_there, may_register}
use Rattle.proactive_handler.proofs.WithTheseRowsLemmas.{registers_more, commit_stands, commit_stops}
use Rattle.proactive_handler.proofs.RowsAreListedLemmas.{rows_listed}
use Rattle.proactive_handler.proofs.changes.commit_registration.Goals as goal

pub register-requires-clause-event : goal.register-requires-clause-event
register-requires-clause-event g c = may_register c.args.loaded.now c.args.shelf.0 c.args.code c.requires.changes

pub returns-in_err-register-clause-carries : goal.returns-in_err-register-clause-carries
returns-in_err-register-clause-carries g c = λ at timers mind here.
    commit_stops c.tables_tell_states.ensures (memory g.S.Store c.args.store.now c.args.loaded.now) c.requires.may_run.mounted.agrees at (Register c.args.code) timers mind (with_code_committed c.args.shelf.0 c.args.code) (λ (rows : List Registration). with_code rows c.args.shelf.0 c.args.code) (registers_more c.args.shelf.0 c.args.code) (register_goes at _ c.args.shelf.0 here c.args.code c.requires.changes) (PutEvents c.args.shelf.0 c.in_err-register.ensures.writes.events) (puts_more c.args.loaded.now c.args.shelf.0 c.states_are_of_entries.ensures.tables c.states_are_of_entries.ensures.rows c.requires.may_run.row at.shelf here c.args.code c.in_err-register.ensures.writes.events c.in_err-register.ensures.writes.low c.in_err-register.ensures.writes.codes_are) (memory g.S.Store c.register.new.store c.register.new.loaded) c.from_residual.result c.from_residual.ensures.0 c.in_err-register.ensures.kept c.in_err-register.ensures.committed.whole c.in_err-register.ensures.committed.commits c.in_err-register.ensures.writes.writes.whole

pub returns-in_err-register-clause-table : goal.returns-in_err-register-clause-table
returns-in_err-register-clause-table g c = rows_alone_differ c.args.loaded.now c.register.new.loaded c.args.loaded.now.rows c.in_err-register.ensures.kept

pub returns-clause-carries : goal.returns-clause-carries
returns-clause-carries g c = λ at timers mind here.
    commit_stands c.tables_tell_states.ensures (memory g.S.Store c.args.store.now c.args.loaded.now) c.requires.may_run.mounted.agrees at (Register c.args.code) timers mind (with_code_committed c.args.shelf.0 c.args.code) (λ (rows : List Registration). with_code rows c.args.shelf.0 c.args.code) (registers_more c.args.shelf.0 c.args.code) (register_goes at _ c.args.shelf.0 here c.args.code c.requires.changes) (PutEvents c.args.shelf.0 c.in_ok-register.ensures.writes.events) (puts_more c.args.loaded.now c.args.shelf.0 c.states_are_of_entries.ensures.tables c.states_are_of_entries.ensures.rows c.requires.may_run.row at.shelf here c.args.code c.in_ok-register.ensures.writes.events c.in_ok-register.ensures.writes.low c.in_ok-register.ensures.writes.codes_are) (memory g.S.Store c.register.new.store c.register.new.loaded) c.in_ok-register.ensures.committed.ok c.in_ok-register.ensures.committed.commits c.in_ok-register.ensures.writes.writes.ok
    (c.in_ok-register.ensures.rows ∙ registers_code (rows_alone c.args.loaded.now) c.args.shelf.0 c.args.code)

pub returns-clause-table : goal.returns-clause-table
returns-clause-table g c = rows_alone_differ c.args.loaded.now c.register.new.loaded _ c.in_ok-register.ensures.table

pub returns-clause-rows_stay : goal.returns-clause-rows_stay
returns-clause-rows_stay g c = rows_stay c.args.loaded.now c.register.new.loaded c.args.shelf.0 _ c.in_ok-register.ensures.table c.requires.may_run.row refl

pub returns-in_err-register-clause-rows_stay : goal.returns-in_err-register-clause-rows_stay
returns-in_err-register-clause-rows_stay g c = rows_as_before c.args.loaded.now c.register.new.loaded c.in_err-register.ensures.kept

pub returns-clause-indexed : goal.returns-clause-indexed
returns-clause-indexed g c = added_follows (rows_of c.args.loaded.now) (rows_of c.register.new.loaded) c.args.shelf.0 (rows_listed _ _ c.args.loaded.now c.requires.may_run.mounted.agrees) c.args.code c.args.index.now c.added.new.self c.requires.may_run.indexed
    (c.in_ok-register.ensures.rows ∙ registers_code (rows_alone c.args.loaded.now) c.args.shelf.0 c.args.code)
    (registered_there (rows_of c.args.loaded.now) c.args.shelf.0 (row_shown c.args.loaded.now c.args.shelf.0 c.states_are_of_entries.ensures.tables c.states_are_of_entries.ensures.rows c.requires.may_run.row)) c.requires.changes c.added.ensures.here c.added.ensures.others
