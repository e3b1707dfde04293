use Rattle.card_laws.proofs.PowerLastsLemmas.{power_lasts}
use Rattle.card_laws.proofs.faults.power_lasts.Goals as goal

pub returns : goal.returns
returns c = power_lasts
