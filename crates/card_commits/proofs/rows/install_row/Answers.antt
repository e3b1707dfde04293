use Rattle.std.proofs.Common.{◌+◌, Some, refl, ap, ◌∙◌, arith}
use Rattle.std.proofs.lemmas.Result.{on_ok_weaker}
use Rattle.card_state.specs.States.{registration_of, rows_of}
use Rattle.card_state.specs.Changes.{AddRow}
use Rattle.card_commits.specs.Entries.{with_row_at}
use Rattle.card_commits.specs.Rows.{with_row_installed}
use Rattle.card_commits.specs.Writing.{prepared_for}
use Rattle.card_commits.proofs.RowsLemmas.{installed_usable, install_commit, rows_after, placed_rows, few_rows}
use Rattle.card_commits.proofs.WritingLemmas.{writes, added_pieces}
use Rattle.card_commits.proofs.rows.install_row.Goals as goal

pub replace_row-requires-clause-usable : goal.replace_row-requires-clause-usable
replace_row-requires-clause-usable g c =
    installed_usable c.args.shelf.0 _ c.args.row c.installed_pieces.new.writes (omega (arith, c.requires.row.fits.sound.shelf, few_rows c.args.loaded.now.wide)) c.row_ranges.ensures.kept c.installed_pieces.ensures

pub returns-clause-committed : goal.returns-clause-committed
returns-clause-committed g c = c.replace_row.ensures.committed (with_row_installed (registration_of c.args.shelf.0 c.args.row))
    (install_commit c.cards_are_known.ensures.card c.cards_are_known.ensures.table c.rows_stand.ensures.installed c.states_stay_sound.ensures.installed _ _ c.args.loaded.now c.args.shelf.0 c.args.row _ c.installed_pieces.new.writes c.requires.row c.row_ranges.ensures refl c.installed_pieces.ensures)

pub returns-clause-rows : goal.returns-clause-rows
returns-clause-rows g c =
    on_ok_weaker c.replace_row.result
    (λ table.
    ap rows_of table
    ∙ rows_after c.cards_are_known.ensures.table _ _ c.args.loaded.now c.installed_pieces.new.writes (record (with_row_at c.args.loaded.now c.args.shelf.0 c.args.row) { next = c.args.loaded.now.next + 1 }) (with_row_installed (registration_of c.args.shelf.0 c.args.row)) c.requires.mounted.agrees
    (install_commit c.cards_are_known.ensures.card c.cards_are_known.ensures.table c.rows_stand.ensures.installed c.states_stay_sound.ensures.installed _ _ c.args.loaded.now c.args.shelf.0 c.args.row _ c.installed_pieces.new.writes c.requires.row c.row_ranges.ensures refl c.installed_pieces.ensures)
    ∙ placed_rows c.cards_are_known.ensures.table _ _ c.args.loaded.now c.args.shelf.0 (Some (registration_of c.args.shelf.0 c.args.row)) c.requires.mounted.agrees)
    c.replace_row.ensures.table

pub returns-clause-writes : goal.returns-clause-writes
unfolding prepared_for
returns-clause-writes g c =
    writes _ _ c.replace_row.result _ c.args.loaded.now _ (AddRow c.args.shelf.0 c.args.row) c.requires.mounted.agrees (added_pieces c.args.loaded.now c.args.shelf.0 _ c.args.row _ refl c.installed_pieces.ensures) (λ content. refl) c.replace_row.ensures.pieces
