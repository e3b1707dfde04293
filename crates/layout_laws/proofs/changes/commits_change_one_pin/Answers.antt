use Rattle.layout_entries.specs.Fields.{reread_pin}
use Rattle.layout_laws.proofs.ChangesPinLemmas.{pin_in_slot, pin_anew, pin_changed, pin_added}
use Rattle.layout_laws.proofs.changes.commits_change_one_pin.Goals as goal

pub returns-clause-changed : goal.returns-clause-changed
returns-clause-changed c = λ content slot from to old new card has fields ranges rest same. pin_changed c.pieces_change_their_bytes.ensures.beside c.commits_change_one_entry.ensures.pin content card slot from to old new has fields ranges rest same

pub returns-clause-reread : goal.returns-clause-reread
returns-clause-reread c = λ content slot from to old pin card has order inside ranges same.
    let beside = c.pieces_change_their_bytes.ensures.beside in
    pin_anew beside content card slot from to old pin (reread_pin content slot from to pin) has order inside
    (c.commits_of_bytes_change_one_entry.ensures.pin content slot from to pin card.long (pin_in_slot beside content card slot old has).0 order inside ranges) same

pub returns-clause-added : goal.returns-clause-added
returns-clause-added c = λ content slot pin card own low ranges. pin_added c.pieces_change_their_bytes.ensures.beside c.commits_change_one_entry.ensures.pin content card slot pin own low ranges
