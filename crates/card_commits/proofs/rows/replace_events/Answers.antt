use Rattle.std.proofs.Common.{ap, ◌∙◌, arith, refl}
use Rattle.card_state.specs.declared.entries.Row.{Row}
use Rattle.card_state.specs.Changes.{PutEvents}
use Rattle.card_commits.specs.Entries.{row_at}
use Rattle.card_commits.specs.Writing.{prepared_for}
use Rattle.card_commits.proofs.HasRecordLemmas.{one_usable}
use Rattle.card_commits.proofs.RowsLemmas.{part_usable, carried}
use Rattle.card_commits.proofs.WritingLemmas.{writes, events_pieces}
use Rattle.card_commits.proofs.rows.replace_events.Goals as goal

pub replace_row-requires-clause-usable : goal.replace_row-requires-clause-usable
replace_row-requires-clause-usable g c = one_usable _ c.row_piece.new.writes c.row_piece.ensures (part_usable c.args.shelf.0 5 7 _ c.row_of.ensures.low (omega arith) (omega arith))

pub returns-clause-committed : goal.returns-clause-committed
returns-clause-committed g c = λ change commits. c.replace_row.ensures.committed change (carried _ _ c.args.loaded.now c.args.shelf.0 5 7 (record (row_at c.args.loaded.now c.args.shelf.0) { events = c.args.events }) (record c.copy_of.result { events = c.args.events }) c.row_piece.new.writes change (ap (λ (r : Row). record r { events = c.args.events }) (c.copy_of.ensures ∙ c.row_of.ensures.value)) c.row_piece.ensures commits)

pub returns-clause-writes : goal.returns-clause-writes
unfolding prepared_for
returns-clause-writes g c =
    writes _ _ c.replace_row.result _ c.args.loaded.now _ (PutEvents c.args.shelf.0 c.args.events) c.requires.mounted.agrees (events_pieces c.args.loaded.now c.args.shelf.0 c.args.events c.copy_of.result _ (c.copy_of.ensures ∙ c.row_of.ensures.value) c.row_piece.ensures) (λ content. refl) c.replace_row.ensures.pieces
