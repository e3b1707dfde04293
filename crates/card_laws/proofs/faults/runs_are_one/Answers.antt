use Rattle.card_laws.proofs.RunsAreOneLemmas.{runs_are_one}
use Rattle.card_laws.proofs.faults.runs_are_one.Goals as goal

pub returns : goal.returns
returns c = runs_are_one
