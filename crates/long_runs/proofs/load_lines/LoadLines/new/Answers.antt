use Rattle.long_runs.proofs.LoadLinesLemmas.{count_of}
use Rattle.long_runs.proofs.load_lines.LoadLines.new.Goals as goal

pub returns-clause-count : goal.returns-clause-count
returns-clause-count c = count_of c.args.count _
