-- The log grows with each thing served, but tells the same lines: what one more comes to is led back to the log that the loop began with.
use Rattle.std.proofs.Common.{Ok, ap, ◌∙◌, arith, refl, rules}
use Rattle.phone_runs.proofs.CarriedLemmas.{carried_on, same_carried}
use Rattle.phone_runs.proofs.ServeLemmas.{ends_again, reaches_again, rests_again}
use Rattle.phone_runs.proofs.serving.settle.Goals as goal

pub loop-end-init : goal.loop-end-init
loop-end-init g c = search (rules, same_carried c.args.phone.now c.args.phone.now c.args.carrier.now refl)

pub loop-end-preserved : goal.loop-end-preserved
loop-end-preserved g c =
    let further = rw c.in-Ok-true.field-0-test at c.in-Ok-true.ensures.further in
    let more = c.in-Ok-true.ensures.more (ap Ok c.in-Ok-true.field-0-test) in
    record {
      reached = λ given log at. let reached = c.loop-end.invariant.reached given log at in reaches_again given _ _ _ _ reached.lines_are (further given reached.log reached.at);
      served = more.served;
      clock = more.clock ∙ c.loop-end.invariant.clock;
      carried = carried_on _ _ _ _ _ _ c.loop-end.invariant.carried c.in-Ok-true.ensures.carried;
      kept = omega (arith, c.in-Ok-true.ensures.tallies.kept, c.loop-end.invariant.kept);
      sink_kept = c.in-Ok-true.ensures.tallies.sink.no_failure (λ is. cc is) ∙ c.loop-end.invariant.sink_kept;
      tells = c.in-Ok-true.ensures.tallies.tells ∙ c.loop-end.invariant.tells;
    }

pub returns-in-Ok-false-clause-settles : goal.returns-in-Ok-false-clause-settles
returns-in-Ok-false-clause-settles g c = λ given log at.
    let further = rw c.in-Ok-false.field-0-test at c.in-Ok-false.ensures.further in
    let reached = c.loop-end.invariant.reached given log at in
    rests_again given _ _ _ _ reached.lines_are (further given reached.log reached.at)

pub returns-in-Err-clause-settles : goal.returns-in-Err-clause-settles
returns-in-Err-clause-settles g c = λ given log at.
    let reached = c.loop-end.invariant.reached given log at in
    ends_again given _ _ _ _ reached.lines_are (c.in-Err.ensures.further given reached.log reached.at)

pub returns-in-Ok-false-clause-carried : goal.returns-in-Ok-false-clause-carried
returns-in-Ok-false-clause-carried g c = carried_on _ _ _ _ _ _ c.loop-end.invariant.carried c.in-Ok-false.ensures.carried
