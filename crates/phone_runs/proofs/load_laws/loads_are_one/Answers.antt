use Rattle.phone_runs.proofs.LoadRunsAreOneLemmas.{loads_are_one}
use Rattle.phone_runs.proofs.load_laws.loads_are_one.Goals as goal

pub returns : goal.returns
returns c = loads_are_one c.phone_runs_are_one.ensures c.undisturbed_runs_show_no_fault.ensures
