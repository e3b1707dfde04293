use Rattle.card_state.proofs.SoundStandsLemmas.{standing_sound, sound_stands}
use Rattle.layout_laws.proofs.WritingLemmas.{pin_changed, pin_added, pin_reread}
use Rattle.layout_laws.proofs.standing.pins_stand.Goals as goal

pub returns-clause-changed : goal.returns-clause-changed
returns-clause-changed c = λ mark content table state slot from to old new stands change.
    let pieces = c.pieces_change_their_bytes.ensures in
    pin_changed standing_sound sound_stands pieces.beside pieces.around mark content table state stands c.commits_change_one_pin.ensures.changed slot from to old new change

pub returns-clause-reread : goal.returns-clause-reread
returns-clause-reread c = λ mark content table state slot from to old pin stands has order inside ranges same.
    let pieces = c.pieces_change_their_bytes.ensures in
    pin_reread standing_sound sound_stands pieces.beside pieces.around mark content table state stands
    c.commits_change_one_pin.ensures.reread slot from to old pin has order inside ranges same

pub returns-clause-added : goal.returns-clause-added
returns-clause-added c = λ mark content table state slot pin stands new.
    let pieces = c.pieces_change_their_bytes.ensures in
    pin_added standing_sound sound_stands pieces.beside pieces.around mark content table state stands c.commits_change_one_pin.ensures.added slot pin new
