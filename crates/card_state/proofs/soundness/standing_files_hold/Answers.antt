use Rattle.card_state.proofs.HoldingLemmas.{files_hold, files_have_bytes, records_are_full}
use Rattle.card_state.proofs.soundness.standing_files_hold.Goals as goal

pub returns : goal.returns
returns c = record { held = files_hold; bytes = files_have_bytes; records = records_are_full }
