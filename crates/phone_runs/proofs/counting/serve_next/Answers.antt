use Rattle.std.proofs.Common.{List, Some, sym, ◌∙◌, subst}
use Rattle.script_form.specs.declared.handset.HandsetLine.{HandsetLine}
use Rattle.run_steps.specs.Ends.{moment_at}
use Rattle.phone_runs.specs.LoadingLines.{IsLoading}
use Rattle.phone_runs.proofs.LoadRunsLemmas.{fails_amid, loads_on}
use Rattle.phone_runs.proofs.counting.serve_next.Goals as goal

pub returns-in-Ok-clause-served : goal.returns-in-Ok-clause-served
returns-in-Ok-clause-served g c = λ made given loading.
    loads_on made given c.args.lines.now c.next.new.self c.in-Some.line c.args.phone.now c.hear_line.new.phone _ _ c.in-Some.ensures.taken loading (c.in-Ok.ensures.plays given loading.log loading.at)

pub returns-in-Err-ResetFailed-clause-served : goal.returns-in-Err-ResetFailed-clause-served
returns-in-Err-ResetFailed-clause-served g c = λ made given loading.
    let plays = rw c.in-Err-ResetFailed.field-0-is at c.in-Err-ResetFailed.ensures.plays in
    fails_amid made given c.args.lines.now c.next.new.self c.in-Some.line c.args.phone.now _ _ c.in-Some.ensures.taken loading (plays given loading.log loading.at)

pub returns-in-None-clause-served : goal.returns-in-None-clause-served
returns-in-None-clause-served g c = λ made given loading.
    (c.in-None.ensures.taken.1, subst (λ (l : List HandsetLine). IsLoading made given l c.args.phone.now (moment_at c.args.card.now (Some c.args.sink.now))) (c.in-None.ensures.taken.0 ∙ sym c.in-None.ensures.taken.1) loading)
