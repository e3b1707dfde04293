use Rattle.long_runs.proofs.CountLemmas.{counts_are_those}
use Rattle.long_runs.proofs.count_laws.counts_are_those_of_the_lines.Goals as goal

pub returns : goal.returns
returns c = counts_are_those
