use Rattle.card_laws.proofs.FaultsAreSeenLemmas.{seen}
use Rattle.card_laws.proofs.faults.faults_are_seen.Goals as goal

pub returns : goal.returns
returns c = seen
