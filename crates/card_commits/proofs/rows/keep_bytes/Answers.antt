use Rattle.std.proofs.Common.{refl, ap, ◌∙◌, arith}
use Rattle.std.proofs.lemmas.Result.{on_ok_weaker}
use Rattle.card_state.specs.Changing.{with_kept_committed}
use Rattle.card_state.specs.States.{rows_of}
use Rattle.card_state.specs.Changes.{PutKept}
use Rattle.card_commits.specs.Entries.{with_row_at}
use Rattle.card_commits.specs.Writing.{prepared_for}
use Rattle.card_commits.proofs.HasRecordLemmas.{one_usable}
use Rattle.card_commits.proofs.RowsLemmas.{part_usable, rows_after, changed_rows, kept_copied}
use Rattle.card_commits.proofs.WritingLemmas.{writes, kept_pieces_put}
use Rattle.card_commits.proofs.rows.keep_bytes.Goals as goal

pub replace_row-requires-clause-usable : goal.replace_row-requires-clause-usable
replace_row-requires-clause-usable g c = one_usable _ c.row_piece.new.writes c.row_piece.ensures (part_usable c.args.shelf.0 18 _ _ c.row_of.ensures.low (omega arith) (omega (arith, c.requires.few)))

pub returns-clause-committed : goal.returns-clause-committed
returns-clause-committed g c = c.replace_row.ensures.committed (with_kept_committed c.args.shelf.0 c.args.kept.now)
    (kept_copied c.cards_are_known.ensures.table c.states_are_of_entries.ensures.from.rows _ _ c.args.loaded.now c.args.shelf.0 c.row_of.result.now c.row_of.ensures.there c.rows_stand.ensures.kept.whole c.copy_of.result c.args.kept.now c.from_slice.result _ c.row_piece.new.writes c.copy_of.ensures c.from_slice.ensures.value c.requires.few refl c.row_piece.ensures)

pub returns-clause-rows : goal.returns-clause-rows
returns-clause-rows g c =
    on_ok_weaker c.replace_row.result
    (λ table.
    ap rows_of table
    ∙ rows_after c.cards_are_known.ensures.table _ _ c.args.loaded.now c.row_piece.new.writes (with_row_at c.args.loaded.now c.args.shelf.0 (record c.copy_of.result { kept = c.from_slice.result })) (with_kept_committed c.args.shelf.0 c.args.kept.now) c.requires.mounted.agrees
    (kept_copied c.cards_are_known.ensures.table c.states_are_of_entries.ensures.from.rows _ _ c.args.loaded.now c.args.shelf.0 c.row_of.result.now c.row_of.ensures.there c.rows_stand.ensures.kept.whole c.copy_of.result c.args.kept.now c.from_slice.result _ c.row_piece.new.writes c.copy_of.ensures c.from_slice.ensures.value c.requires.few refl c.row_piece.ensures)
    ∙ changed_rows c.cards_are_known.ensures.table _ _ c.args.loaded.now (λ r. record r { kept = c.args.kept.now }) c.args.shelf.0 c.requires.mounted.agrees)
    c.replace_row.ensures.table

pub returns-clause-writes : goal.returns-clause-writes
unfolding prepared_for
returns-clause-writes g c =
    writes _ _ c.replace_row.result _ c.args.loaded.now _ (PutKept c.args.shelf.0 c.args.kept.now) c.requires.mounted.agrees (kept_pieces_put c.args.loaded.now c.args.shelf.0 _ c.args.kept.now c.from_slice.result c.copy_of.result _ (c.copy_of.ensures ∙ c.row_of.ensures.value) c.from_slice.ensures.value refl c.row_piece.ensures) (λ content. refl) c.replace_row.ensures.pieces
