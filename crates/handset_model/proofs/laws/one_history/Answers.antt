use Rattle.handset_model.proofs.OneHistoryLemmas.{one_history}
use Rattle.handset_model.proofs.laws.one_history.Goals as goal

pub returns : goal.returns
returns c = one_history
