use Rattle.std.proofs.Common.{[], ◌∷◌, List, ℕ, filter, not, ◌==◌, ap, subst, ◌∙◌, inl, arith}
use Rattle.std.proofs.lemmas.Result.{on_ok_weaker}
use Rattle.card_state.specs.declared.entries.Row.{Row}
use Rattle.card_state.specs.Changing.{without_code_committed}
use Rattle.card_state.specs.Kinds.{codes_of}
use Rattle.card_state.specs.States.{registration_of, rows_of}
use Rattle.card_state.specs.Persistent.{Registration}
use Rattle.layout_entries.specs.Spelling.{row_part}
use Rattle.card_commits.specs.Entries.{row_at, with_row_at}
use Rattle.card_commits.specs.Commits.{Commits}
use Rattle.card_commits.proofs.RowsLemmas.{events_commit, rows_after, changed_rows, left_call_control}
use Rattle.card_commits.proofs.rows.deregister.Goals as goal

pub returns-clause-committed : goal.returns-clause-committed
returns-clause-committed g c = c.replace_events.ensures.committed (without_code_committed c.args.shelf.0 c.args.code)
    (subst (λ (row : Row). Commits (g.S.Store.store_mark c.args.store.now) (g.S.Store.stable c.args.store.now) c.args.loaded.now (row_part c.args.shelf.0 (record row { events = c.without_event-events.result }) 5 7 ∷ []) (with_row_at c.args.loaded.now c.args.shelf.0 (record row { events = c.without_event-events.result })) (without_code_committed c.args.shelf.0 c.args.code))
    c.row_of.ensures.value
    (events_commit c.cards_are_known.ensures.table c.states_are_of_entries.ensures.from.rows _ _ c.args.loaded.now c.args.shelf.0 c.row_of.result.now c.row_of.ensures.there c.rows_stand.ensures.codes.events c.without_event-events.result (λ r. record r { codes = filter (λ other. not (other == c.args.code)) r.codes })
    (omega (arith, c.without_event-events.ensures.low, (c.cards_are_known.ensures.rows _ _ c.args.loaded.now _ c.args.shelf.0 c.row_of.result.now c.requires.mounted.agrees.stands c.row_of.ensures.there).events))
    (inl (left_call_control c.args.code _ _ c.without_event-events.ensures.value))
    (ap (λ (codes : List ℕ). let new : Registration = record (registration_of c.args.shelf.0 c.row_of.result.now) { codes = codes } in new) c.without_event-events.ensures.value)))

pub returns-clause-rows : goal.returns-clause-rows
returns-clause-rows g c =
    on_ok_weaker c.replace_events.result
    (λ table.
    ap rows_of table
    ∙ rows_after c.cards_are_known.ensures.table _ _ c.args.loaded.now (row_part c.args.shelf.0 (record (row_at c.args.loaded.now c.args.shelf.0) { events = c.without_event-events.result }) 5 7 ∷ []) (with_row_at c.args.loaded.now c.args.shelf.0 (record (row_at c.args.loaded.now c.args.shelf.0) { events = c.without_event-events.result })) (without_code_committed c.args.shelf.0 c.args.code) c.requires.mounted.agrees
    (subst (λ (row : Row). Commits (g.S.Store.store_mark c.args.store.now) (g.S.Store.stable c.args.store.now) c.args.loaded.now (row_part c.args.shelf.0 (record row { events = c.without_event-events.result }) 5 7 ∷ []) (with_row_at c.args.loaded.now c.args.shelf.0 (record row { events = c.without_event-events.result })) (without_code_committed c.args.shelf.0 c.args.code))
    c.row_of.ensures.value
    (events_commit c.cards_are_known.ensures.table c.states_are_of_entries.ensures.from.rows _ _ c.args.loaded.now c.args.shelf.0 c.row_of.result.now c.row_of.ensures.there c.rows_stand.ensures.codes.events c.without_event-events.result (λ r. record r { codes = filter (λ other. not (other == c.args.code)) r.codes })
    (omega (arith, c.without_event-events.ensures.low, (c.cards_are_known.ensures.rows _ _ c.args.loaded.now _ c.args.shelf.0 c.row_of.result.now c.requires.mounted.agrees.stands c.row_of.ensures.there).events))
    (inl (left_call_control c.args.code _ _ c.without_event-events.ensures.value))
    (ap (λ (codes : List ℕ). let new : Registration = record (registration_of c.args.shelf.0 c.row_of.result.now) { codes = codes } in new) c.without_event-events.ensures.value)))
    ∙ changed_rows c.cards_are_known.ensures.table _ _ c.args.loaded.now (λ r. record r { codes = filter (λ other. not (other == c.args.code)) r.codes }) c.args.shelf.0 c.requires.mounted.agrees)
    c.replace_events.ensures.table

pub returns-clause-writes : goal.returns-clause-writes
returns-clause-writes g c = record {
  events = c.without_event-events.result;
  low = omega (arith, c.without_event-events.ensures.low, (c.cards_are_known.ensures.rows _ _ c.args.loaded.now _ c.args.shelf.0 c.row_of.result.now c.requires.mounted.agrees.stands c.row_of.ensures.there).events);
  codes_are = c.without_event-events.ensures.value ∙ ap (λ (r : Row). filter (λ other. not (other == c.args.code)) (codes_of r.events)) c.row_of.ensures.value;
  writes = c.replace_events.ensures.writes;
}
