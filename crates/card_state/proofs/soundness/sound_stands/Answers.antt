use Rattle.card_state.proofs.SoundStandsLemmas.{sound_stands}
use Rattle.card_state.proofs.soundness.sound_stands.Goals as goal

pub returns : goal.returns
returns c = sound_stands
