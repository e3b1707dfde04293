use Rattle.handset_model.proofs.WorkLeftLemmas.{lines_end}
use Rattle.handset_model.proofs.laws.lines_end.Goals as goal

pub returns : goal.returns
returns c = lines_end
