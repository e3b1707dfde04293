use Rattle.std.proofs.Common.{None, ap, ◌∙◌, arith, refl}
use Rattle.std.proofs.lemmas.Result.{on_ok_weaker}
use Rattle.card_state.specs.States.{rows_of}
use Rattle.card_state.specs.Changes.{TakeRow}
use Rattle.card_commits.specs.Entries.{with_row_at}
use Rattle.card_commits.specs.Rows.{without_row_on}
use Rattle.card_commits.specs.Writing.{prepared_for}
use Rattle.card_commits.proofs.HasRecordLemmas.{one_usable}
use Rattle.card_commits.proofs.RowsLemmas.{part_usable, rows_after, placed_rows, removed_copied}
use Rattle.card_commits.proofs.WritingLemmas.{writes, taken_pieces}
use Rattle.card_commits.proofs.rows.remove_row.Goals as goal

pub replace_row-requires-clause-usable : goal.replace_row-requires-clause-usable
replace_row-requires-clause-usable g c = one_usable _ c.row_piece.new.writes c.row_piece.ensures (part_usable c.args.shelf.0 0 1 _ c.row_of.ensures.low (omega arith) (omega arith))

pub returns-clause-committed : goal.returns-clause-committed
returns-clause-committed g c = c.replace_row.ensures.committed (without_row_on c.args.shelf.0)
    (removed_copied c.cards_are_known.ensures.table c.states_are_of_entries.ensures.from.rows _ _ c.args.loaded.now c.args.shelf.0 c.row_of.result.now c.row_of.ensures.there c.rows_stand.ensures.removed c.copy_of.result c.unused.result c.row_piece.new.writes c.copy_of.ensures c.unused.ensures c.row_piece.ensures)

pub returns-clause-rows : goal.returns-clause-rows
returns-clause-rows g c =
    on_ok_weaker c.replace_row.result
    (λ table.
    ap rows_of table
    ∙ rows_after c.cards_are_known.ensures.table _ _ c.args.loaded.now c.row_piece.new.writes (with_row_at c.args.loaded.now c.args.shelf.0 c.unused.result) (without_row_on c.args.shelf.0) c.requires.mounted.agrees
    (removed_copied c.cards_are_known.ensures.table c.states_are_of_entries.ensures.from.rows _ _ c.args.loaded.now c.args.shelf.0 c.row_of.result.now c.row_of.ensures.there c.rows_stand.ensures.removed c.copy_of.result c.unused.result c.row_piece.new.writes c.copy_of.ensures c.unused.ensures c.row_piece.ensures)
    ∙ placed_rows c.cards_are_known.ensures.table _ _ c.args.loaded.now c.args.shelf.0 None c.requires.mounted.agrees)
    c.replace_row.ensures.table

pub returns-clause-writes : goal.returns-clause-writes
unfolding prepared_for
returns-clause-writes g c =
    writes _ _ c.replace_row.result _ c.args.loaded.now _ (TakeRow c.args.shelf.0) c.requires.mounted.agrees (taken_pieces c.args.loaded.now c.args.shelf.0 c.copy_of.result _ (c.copy_of.ensures ∙ c.row_of.ensures.value) c.row_piece.ensures) (λ content. refl) c.replace_row.ensures.pieces
