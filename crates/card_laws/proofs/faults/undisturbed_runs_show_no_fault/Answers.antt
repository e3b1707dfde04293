use Rattle.card_laws.proofs.FaultsAreSeenLemmas.{undisturbed}
use Rattle.card_laws.proofs.faults.undisturbed_runs_show_no_fault.Goals as goal

pub returns : goal.returns
returns c = undisturbed
