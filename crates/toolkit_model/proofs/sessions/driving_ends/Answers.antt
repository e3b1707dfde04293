use Rattle.toolkit_model.proofs.IsInOrderLemmas.{driving_is_done}
use Rattle.toolkit_model.proofs.sessions.driving_ends.Goals as goal

pub returns : goal.returns
returns c = driving_is_done
