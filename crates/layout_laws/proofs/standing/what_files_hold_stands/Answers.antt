use Rattle.card_state.proofs.SoundStandsLemmas.{standing_sound, sound_stands}
use Rattle.layout_laws.proofs.WrittenBytesStandLemmas.{bytes_written, record_written, newest_written, same_stands}
use Rattle.layout_laws.proofs.standing.what_files_hold_stands.Goals as goal

pub returns-clause-bytes : goal.returns-clause-bytes
returns-clause-bytes c = λ mark content table state number offset node bytes stands shows transparent fits.
    let pieces = c.pieces_change_their_bytes.ensures in
    bytes_written standing_sound sound_stands pieces.beside pieces.around mark content table state stands
    c.commits_change_what_a_file_holds.ensures.bytes number offset node bytes shows transparent fits

pub returns-clause-record : goal.returns-clause-record
returns-clause-record c = λ mark content table state number index node bytes stands shows linear low fits.
    let pieces = c.pieces_change_their_bytes.ensures in
    record_written standing_sound sound_stands pieces.beside pieces.around mark content table state stands
    c.commits_change_what_a_file_holds.ensures.record number index node bytes shows linear low fits

pub returns-clause-newest : goal.returns-clause-newest
returns-clause-newest c = λ mark content table state number node bytes stands shows cyclic fits.
    let pieces = c.pieces_change_their_bytes.ensures in
    let entries = c.commits_change_one_entry.ensures in
    newest_written standing_sound sound_stands pieces.beside pieces.around mark content table state stands
    entries.node entries.files c.commits_change_what_a_file_holds.ensures.newest number node bytes shows cyclic fits

pub returns-clause-free : goal.returns-clause-free
returns-clause-free c = λ mark content content' table state place count stands free torn.
    let pieces = c.pieces_change_their_bytes.ensures in
    same_stands standing_sound sound_stands pieces.beside pieces.around mark content table state stands
    c.commits_change_what_a_file_holds.ensures.free content' place count free torn
