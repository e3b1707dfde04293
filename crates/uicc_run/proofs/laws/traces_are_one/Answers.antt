use Rattle.uicc_run.proofs.DeterminedLemmas.{traces_are_one}
use Rattle.uicc_run.proofs.laws.traces_are_one.Goals as goal

pub returns : goal.returns
returns c = traces_are_one c.runs_are_one.ensures
