use Rattle.uicc_run.proofs.DeterminedLemmas.{loads_are_one, served_are_one}
use Rattle.uicc_run.proofs.laws.served_traces_are_one.Goals as goal

pub returns-clause-served : goal.returns-clause-served
returns-clause-served c = served_are_one c.phone_runs_are_one.ensures

pub returns-clause-loads : goal.returns-clause-loads
returns-clause-loads c = loads_are_one c.phone_runs_are_one.ensures
