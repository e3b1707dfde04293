use Rattle.bip_runs.proofs.IsServingLemmas.{at_end, at_last, in_script}
use Rattle.bip_runs.proofs.serving.next_line.Goals as goal

pub returns-in-Ok-true-clause-gives : goal.returns-in-Ok-true-clause-gives
returns-in-Ok-true-clause-gives g c = λ text found follows.
    let next = rw c.in-Ok-true.field-0-test at c.in-Ok-true.ensures.next in
    next text found follows

pub returns-in-Before-clause-gives : goal.returns-in-Before-clause-gives
returns-in-Before-clause-gives g c = λ text found follows.
    let next = rw c.in-Ok-false.field-0-test at c.in-Ok-false.ensures.next in
    at_end c.args.place text found c.next.new.self (g.R.Source.left c.next.new.source) c.next.new.line c.next_is_bad.result c.end_for.result c.in-Before.is (next text found follows) c.next_is_bad.ensures c.end_for.ensures

pub returns-in-Behind-clause-gives : goal.returns-in-Behind-clause-gives
returns-in-Behind-clause-gives g c = λ text found follows.
    let next = rw c.in-Ok-false.field-0-test at c.in-Ok-false.ensures.next in
    at_last c.args.place text found c.next.new.self (g.R.Source.left c.next.new.source) c.next.new.line c.in-Behind.is (next text found follows)

pub returns-in-Err-clause-gives : goal.returns-in-Err-clause-gives
returns-in-Err-clause-gives g c = λ text found follows.
    in_script c.args.place text found c.next.new.self (g.R.Source.left c.next.new.source) c.next.new.line c.in-Err.fault c.end_for-in-Err.result c.end_for-in-Err.ensures (c.in-Err.ensures.next text found follows)
