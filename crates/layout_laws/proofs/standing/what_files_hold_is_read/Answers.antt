use Rattle.card_state.proofs.SoundStandsLemmas.{standing_sound, sound_stands}
use Rattle.layout_laws.proofs.BytesAreReadLemmas.{bytes_read, record_read, ring_read}
use Rattle.layout_laws.proofs.standing.what_files_hold_is_read.Goals as goal

pub returns-clause-bytes : goal.returns-clause-bytes
returns-clause-bytes c = λ mark content table state number offset count node file held stands shows is holds fits.
    bytes_read standing_sound sound_stands mark content table state stands c.files_are_read.ensures.bytes number offset count node file held shows is holds fits

pub returns-clause-record : goal.returns-clause-record
returns-clause-record c = λ mark content table state number index node file held stands shows is linear holds low.
    record_read standing_sound sound_stands mark content table state stands c.files_are_read.ensures.record number index node file held shows is linear holds low

pub returns-clause-ring : goal.returns-clause-ring
returns-clause-ring c = λ mark content table state number index node file held stands shows is cyclic holds low.
    ring_read standing_sound sound_stands mark content table state stands c.files_are_read.ensures.record number index node file held shows is cyclic holds low
