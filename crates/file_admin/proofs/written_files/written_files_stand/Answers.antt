use Rattle.file_admin.proofs.MadeFilesStandLemmas.{rooms_are_free, made_bytes_are_free, made_files_stand}
use Rattle.file_admin.proofs.GrownFilesStandLemmas.{grown_files_stand, shrunk_files_stand, deleted_files_stand}
use Rattle.file_admin.proofs.written_files.written_files_stand.Goals as goal

pub returns-clause-free : goal.returns-clause-free
returns-clause-free c = rooms_are_free

pub returns-clause-beside : goal.returns-clause-beside
returns-clause-beside c = made_bytes_are_free

pub returns-clause-made : goal.returns-clause-made
returns-clause-made c =
    made_files_stand c.cards_are_known.ensures.card c.cards_are_known.ensures.table c.what_files_hold_stands.ensures.free c.files_stand.ensures.added c.states_stay_sound.ensures.file

pub returns-clause-grown : goal.returns-clause-grown
returns-clause-grown c =
    grown_files_stand c.cards_are_known.ensures.card c.cards_are_known.ensures.table c.cards_are_known.ensures.files c.what_files_hold_stands.ensures.free c.files_stand.ensures.changed
    c.states_stay_sound.ensures.file

pub returns-clause-shrunk : goal.returns-clause-shrunk
returns-clause-shrunk c =
    shrunk_files_stand c.cards_are_known.ensures.card c.cards_are_known.ensures.table c.cards_are_known.ensures.files c.files_stand.ensures.changed c.states_stay_sound.ensures.file

pub returns-clause-deleted : goal.returns-clause-deleted
returns-clause-deleted c = deleted_files_stand c.cards_are_known.ensures.card c.cards_are_known.ensures.table c.files_stand.ensures.removed
