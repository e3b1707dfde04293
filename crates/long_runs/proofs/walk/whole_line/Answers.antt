use Rattle.long_runs.proofs.IsWholeLineLemmas.{line_before}
use Rattle.long_runs.proofs.walk.whole_line.Goals as goal

pub returns-in-Some : goal.returns-in-Some
returns-in-Some c = line_before c.args.bytes.now c.in-Some.place c.if-place-bytes.true c.in-Some.ensures.1 c.in-Some.ensures.0.before
