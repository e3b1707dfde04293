use Rattle.script_reader.proofs.BehindLemmas.{stops_so}
use Rattle.script_reader.proofs.behind.read_behind.Goals as goal

pub returns-in-Ok-true-clause-gives : goal.returns-in-Ok-true-clause-gives
returns-in-Ok-true-clause-gives g c = λ may text found follows.
    let next = rw c.in-Ok-true.field-0-test at c.in-Ok-true.ensures.next in
    next text found follows

pub returns-in-Ok-false-clause-gives : goal.returns-in-Ok-false-clause-gives
returns-in-Ok-false-clause-gives g c = λ may text found follows.
    let next = rw c.in-Ok-false.field-0-test at c.in-Ok-false.ensures.next in
    (next text found follows).0

pub returns-in-Err-clause-gives : goal.returns-in-Err-clause-gives
returns-in-Err-clause-gives g c = λ may text found follows.
    stops_so may text found c.next.new.self (g.R.Source.left c.next.new.source) c.next.new.line c.in-Err.fault c.end_for.result c.end_for.ensures (c.in-Err.ensures.next text found follows)
