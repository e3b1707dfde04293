use Rattle.std.proofs.Common.{sym, ◌∙◌}
use Rattle.card_state.specs.States.{registration_of, rows_of}
use Rattle.applet_registry.specs.Rows.{answers_calls}
use Rattle.applet_registry.proofs.RowsOfLemmas.{taken_there, taken_by_call, not_taken}
use Rattle.applet_registry.proofs.installing.is_taken.Goals as goal

pub returns-in-Some : goal.returns-in-Some
returns-in-Some c = taken_there (rows_of c.args.loaded.now) (registration_of c.args.shelf.0 c.args.row.now) _ (c.in-Some.ensures)

pub returns-then-answers_calls : goal.returns-then-answers_calls
unfolding answers_calls
returns-then-answers_calls c =
    c.is_answered.ensures ∙ taken_by_call (rows_of c.args.loaded.now) (registration_of c.args.shelf.0 c.args.row.now) (c.in-None.ensures) (sym c.answers_calls.ensures ∙ c.if-answers_calls.true)

pub returns-else-answers_calls : goal.returns-else-answers_calls
unfolding answers_calls
returns-else-answers_calls c =
    c.if-answers_calls.false ∙ not_taken (rows_of c.args.loaded.now) (registration_of c.args.shelf.0 c.args.row.now) (c.in-None.ensures) (sym c.answers_calls.ensures ∙ c.if-answers_calls.false)
