use Rattle.card_core.proofs.AreSelectedLemmas.{mf_there}
use Rattle.card_core.proofs.laws.the_mf_is_there.Goals as goal

pub returns : goal.returns
returns c = mf_there c.standing_is_sound.ensures.sound c.cards_are_known.ensures.table c.files_are_found.ensures.told
