use Rattle.handset_model.proofs.SoonestLemmas.{first, none}
use Rattle.handset_model.proofs.laws.soonest_first.Goals as goal

pub returns : goal.returns
returns c = record { first = first; none = none }
