use Rattle.phone_runs.proofs.PhoneRunsAreOneLemmas.{traces_are_one}
use Rattle.phone_runs.proofs.laws.phone_runs_are_one.Goals as goal

pub returns : goal.returns
returns c = traces_are_one c.runs_are_one.ensures
