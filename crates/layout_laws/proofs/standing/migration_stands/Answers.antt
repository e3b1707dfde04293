use Rattle.card_state.proofs.SoundStandsLemmas.{standing_sound, sound_stands}
use Rattle.layout_laws.proofs.MigratingLemmas.{low_ends_seen, others_stay, upper_rows_free, wide_version_stands}
use Rattle.layout_laws.proofs.standing.migration_stands.Goals as goal

pub returns-clause-seen : goal.returns-clause-seen
returns-clause-seen c = low_ends_seen standing_sound

pub returns-clause-others : goal.returns-clause-others
returns-clause-others c = others_stay standing_sound

pub returns-clause-free : goal.returns-clause-free
returns-clause-free c = upper_rows_free standing_sound

pub returns-clause-wide : goal.returns-clause-wide
returns-clause-wide c =
    let pieces = c.pieces_change_their_bytes.ensures in
    wide_version_stands standing_sound sound_stands pieces.beside pieces.around c.commits_change_one_entry.ensures.version c.what_files_hold_stands.ensures.free
