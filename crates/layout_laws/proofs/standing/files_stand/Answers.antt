use Rattle.card_state.proofs.SoundStandsLemmas.{standing_sound, sound_stands}
use Rattle.layout_laws.proofs.StandingLawsLemmas.{file_removed, life_changed}
use Rattle.layout_laws.proofs.WritingLemmas.{file_changed, file_added, file_reread}
use Rattle.layout_laws.proofs.standing.files_stand.Goals as goal

pub returns-clause-changed : goal.returns-clause-changed
returns-clause-changed c = λ mark content table state number from to old new stands change sound.
    let pieces = c.pieces_change_their_bytes.ensures in
    file_changed standing_sound sound_stands pieces.beside pieces.around mark content table state stands
    c.commits_change_one_entry.ensures.node c.commits_change_one_file.ensures.changed number from to old new change sound

pub returns-clause-added : goal.returns-clause-added
returns-clause-added c = λ mark content table state number node stands whole sound.
    let pieces = c.pieces_change_their_bytes.ensures in
    file_added standing_sound sound_stands pieces.beside pieces.around mark content table state stands
    c.commits_change_one_entry.ensures.node c.commits_change_one_file.ensures.added number node whole sound

pub returns-clause-life : goal.returns-clause-life
returns-clause-life c = λ mark content table state number life node stands has is_ef known.
    let pieces = c.pieces_change_their_bytes.ensures in
    life_changed standing_sound sound_stands mark content table state stands pieces.beside pieces.around
    c.commits_change_one_entry.ensures.node c.commits_change_one_file.ensures.changed number life node has is_ef known

pub returns-clause-removed : goal.returns-clause-removed
returns-clause-removed c = λ mark content table state number node stands has not_mf empty.
    let pieces = c.pieces_change_their_bytes.ensures in
    file_removed standing_sound sound_stands mark content table state stands pieces.beside pieces.around
    c.commits_change_one_entry.ensures.node c.commits_change_one_file.ensures.changed number node has not_mf empty

pub returns-clause-reread : goal.returns-clause-reread
returns-clause-reread c = λ mark content table state number from to node stands low order inside lies.
    let pieces = c.pieces_change_their_bytes.ensures in
    file_reread standing_sound sound_stands pieces.beside pieces.around mark content table state stands
    c.commits_change_one_file.ensures.reread number from to node low order inside lies
