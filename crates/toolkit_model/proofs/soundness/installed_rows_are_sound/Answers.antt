use Rattle.toolkit_model.proofs.SoundLemmas.{installed_sound}
use Rattle.toolkit_model.proofs.soundness.installed_rows_are_sound.Goals as goal

pub returns : goal.returns
returns c = installed_sound
