use Rattle.card_state.proofs.SoundStandsLemmas.{standing_sound}
use Rattle.card_state.proofs.RecordsAreShortLemmas.{records_short}
use Rattle.card_state.proofs.soundness.standing_is_sound.Goals as goal

pub returns : goal.returns
returns c = record { sound = standing_sound; short_records = records_short }
