use Rattle.layout_laws.proofs.WritesBytesLemmas.{bytes_written, record_changed, newest_changed, free_range}
use Rattle.layout_laws.proofs.changes.commits_change_what_a_file_holds.Goals as goal

pub returns-clause-bytes : goal.returns-clause-bytes
returns-clause-bytes c = λ content number offset node bytes old card has holds fits.
    let pieces = c.pieces_change_their_bytes.ensures in
    bytes_written pieces.beside pieces.around c.commits_change_one_entry.ensures.files content card number node has offset bytes old holds fits

pub returns-clause-record : goal.returns-clause-record
returns-clause-record c = λ content number index node bytes old card has first holds low long.
    let pieces = c.pieces_change_their_bytes.ensures in
    record_changed pieces.beside pieces.around c.commits_change_one_entry.ensures.files content card number node has index bytes old first holds low long

pub returns-clause-newest : goal.returns-clause-newest
returns-clause-newest c = λ content number node bytes old card has low holds long.
    let pieces = c.pieces_change_their_bytes.ensures in
    let entries = c.commits_change_one_entry.ensures in
    newest_changed pieces.beside pieces.around entries.files content card number node has entries.node bytes old low holds long

pub returns-clause-free : goal.returns-clause-free
returns-clause-free c = λ content content' place count card free torn.
    let pieces = c.pieces_change_their_bytes.ensures in
    free_range pieces.beside pieces.around c.commits_change_one_entry.ensures.files content content' place count card torn free.from free.to free.beside
