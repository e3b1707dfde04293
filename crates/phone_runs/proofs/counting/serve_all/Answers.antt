use Rattle.std.proofs.Common.{arith}
use Rattle.phone_runs.proofs.counting.serve_all.Goals as goal

pub loop-failed-preserved : goal.loop-failed-preserved
loop-failed-preserved g c =
    let served = rw c.in-Ok-true.field-0-test at c.in-Ok-true.ensures.served in
    record {
      loading = λ made given loading. served made given (c.loop-failed.invariant.loading made given loading);
      rest = c.in-Ok-true.ensures.rest;
      clock = c.in-Ok-true.ensures.clock;
      kept = omega (arith, c.in-Ok-true.ensures.kept, c.loop-failed.invariant.kept);
    }

pub returns-in-Ok-false-clause-served : goal.returns-in-Ok-false-clause-served
returns-in-Ok-false-clause-served g c = λ made given loading.
    let served = rw c.in-Ok-false.field-0-test at c.in-Ok-false.ensures.served in
    let done = served made given (c.loop-failed.invariant.loading made given loading) in
    rw (done.0) at done.1

pub returns-in-Err-clause-served : goal.returns-in-Err-clause-served
returns-in-Err-clause-served g c = λ made given loading. c.in-Err.ensures.served made given (c.loop-failed.invariant.loading made given loading)
