use Rattle.std.proofs.Common.{arith}
use Rattle.card_state.specs.Checks.{row_there}
use Rattle.layout_entries.specs.Fields.{kept_anew, reread_row}
use Rattle.layout_laws.proofs.ChangesRowLemmas.{row_anew, apart_anew, row_changed, row_added, row_installed, sequence_changed}
use Rattle.layout_laws.proofs.changes.commits_change_one_row.Goals as goal

pub returns-clause-changed : goal.returns-clause-changed
returns-clause-changed c = λ content shelf from to old part new card has fields ranges rest short. row_changed c.pieces_change_their_bytes.ensures.beside content card c.commits_change_one_entry.ensures.row shelf from to old part new has fields ranges rest short

pub returns-clause-added : goal.returns-clause-added
returns-clause-added c = λ content shelf row card low ranges limit. row_added c.pieces_change_their_bytes.ensures.beside content card c.commits_change_one_entry.ensures.row c.commits_change_one_entry.ensures.long_row shelf row low ranges limit

pub returns-clause-installed : goal.returns-clause-installed
returns-clause-installed c = λ content shelf next row card low ranges limit next_low.
    let entries = c.commits_change_one_entry.ensures in
    row_installed c.pieces_change_their_bytes.ensures.beside content card entries.sequence entries.row entries.long_row shelf next row low ranges limit next_low

pub returns-clause-sequence : goal.returns-clause-sequence
returns-clause-sequence c = λ content next card low. sequence_changed c.pieces_change_their_bytes.ensures.beside content card c.commits_change_one_entry.ensures.sequence next low

pub returns-clause-reread : goal.returns-clause-reread
returns-clause-reread c = λ content shelf from to row card low order inside.
    row_anew c.pieces_change_their_bytes.ensures.beside content card shelf from to row (reread_row content shelf from to row) low order inside
    (c.commits_of_bytes_change_one_entry.ensures.row content shelf from to row card.long low order inside)

pub returns-clause-kept : goal.returns-clause-kept
returns-clause-kept c = λ content shelf to row card low few enough inside.
    row_anew c.pieces_change_their_bytes.ensures.beside content card shelf 18 to row (record (row_there content shelf) { kept = row.kept }) low (omega arith) inside
    (c.commits_change_one_entry.ensures.kept.whole content shelf to row card.long low few enough inside)

pub returns-clause-apart : goal.returns-clause-apart
returns-clause-apart c = λ content shelf row card is low few.
    apart_anew c.pieces_change_their_bytes.ensures.beside content card shelf row (record (row_there content shelf) { kept = kept_anew (row_there content shelf).kept row.kept }) is low few
    (c.commits_change_one_entry.ensures.kept.apart content shelf row card.long is low few)
