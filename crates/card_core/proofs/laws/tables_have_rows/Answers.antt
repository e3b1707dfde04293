use Rattle.card_core.proofs.AreSelectedLemmas.{have_rows}
use Rattle.card_core.proofs.laws.tables_have_rows.Goals as goal

pub returns : goal.returns
returns c = have_rows c.standing_is_sound.ensures.sound c.cards_are_known.ensures.table
