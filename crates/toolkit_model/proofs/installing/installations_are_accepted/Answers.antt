use Rattle.toolkit_model.proofs.InstallationsAreAcceptedLemmas.{installations_accepted}
use Rattle.toolkit_model.proofs.installing.installations_are_accepted.Goals as goal

pub returns : goal.returns
returns c = installations_accepted
