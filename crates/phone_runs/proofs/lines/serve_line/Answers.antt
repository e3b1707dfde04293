-- A line does nothing, is out of place, or is told the handset: each goes on from the lines served, or says after which of them it ends.
use Rattle.std.proofs.Common.{inr}
use Rattle.script_reader.proofs.BehindLemmas.{bad_behind}
use Rattle.phone_runs.specs.Lines.{may_be_heard}
use Rattle.phone_runs.specs.Logs.{Arms, Hears}
use Rattle.phone_runs.proofs.RunsLemmas.{plans_further}
use Rattle.phone_runs.proofs.LineLemmas.{ends_amid, ends_serving, lines_end, serves_further, serves_on, stops_in_line}
use Rattle.phone_runs.proofs.lines.serve_line.Goals as goal

pub returns-in-Err-clause-served : goal.returns-in-Err-clause-served
returns-in-Err-clause-served g c = λ text opening given serving.
    lines_end text opening given _ _ _ (ends_serving text opening given _ _ _ _ _ c.args.card.now.parts _ _ (λ found follows. c.in-Err.ensures.gives may_be_heard text found follows) serving)

pub returns-in-Nothing-clause-served : goal.returns-in-Nothing-clause-served
returns-in-Nothing-clause-served g c = λ text opening given serving.
    let effect = rw c.in-Nothing.is at c.effect_on_phone.ensures.effect in
    serves_on text opening given _ _ _ _ _ _ c.read_behind.new.line (λ found follows. c.in-Ok.ensures.gives may_be_heard text found follows) effect.0 effect.1 serving

pub returns-in-OutOfPlace-clause-served : goal.returns-in-OutOfPlace-clause-served
returns-in-OutOfPlace-clause-served g c = λ text opening given serving.
    let effect = rw c.in-OutOfPlace.is at c.effect_on_phone.ensures.effect in
    ends_serving text opening given _ _ _ _ _ c.args.card.now.parts _ _
    (λ found follows. bad_behind may_be_heard text found c.read_behind.new.script _ c.read_behind.new.line _ (c.in-Ok.ensures.gives may_be_heard text found follows) effect c.number.ensures) serving

pub returns-in-Plans-clause-served : goal.returns-in-Plans-clause-served
returns-in-Plans-clause-served g c = λ text opening given serving.
    let effect = rw c.in-Plans.is at c.effect_on_phone.ensures.effect in
    serves_further text opening given _ _ _ _ _ _ _ _ c.read_behind.new.line (Arms c.in-Plans.plan) (λ found follows. c.in-Ok.ensures.gives may_be_heard text found follows) effect.0 effect.1 serving
    (plans_further c.plans_are_set_in_order.ensures given serving.log c.in-Plans.plan c.args.phone.now c.args.card.now c.plan.new.self _ serving.rests c.plan.ensures serving.at)

pub returns-in-Ok-hear_line-clause-served : goal.returns-in-Ok-hear_line-clause-served
returns-in-Ok-hear_line-clause-served g c = λ text opening given serving.
    let effect = rw c.in-Hears.is at c.effect_on_phone.ensures.effect in
    serves_further text opening given _ _ _ _ _ _ _ _ c.read_behind.new.line (Hears c.in-Hears.said) (λ found follows. c.in-Ok.ensures.gives may_be_heard text found follows) effect.0 effect.1 serving
    (c.in-Ok-hear_line.ensures.plays given serving.log serving.at)

pub returns-in-Ok-hear_line-clause-carried : goal.returns-in-Ok-hear_line-clause-carried
returns-in-Ok-hear_line-clause-carried g c = inr c.in-Ok-hear_line.ensures.carried

pub returns-in-Err-hear_line-clause-served : goal.returns-in-Err-hear_line-clause-served
returns-in-Err-hear_line-clause-served g c = λ text opening given serving.
    let effect = rw c.in-Hears.is at c.effect_on_phone.ensures.effect in
    ends_amid text opening given _ c.in-Err-hear_line.end _ _ c.end_of.ensures
    (stops_in_line text opening given _ _ _ (g.R.Source.left c.read_behind.new.source) _ _ _ c.read_behind.new.line (Hears c.in-Hears.said) c.in-Err-hear_line.end (λ found follows. c.in-Ok.ensures.gives may_be_heard text found follows) effect.0 effect.1 serving
    (c.in-Err-hear_line.ensures.plays given serving.log serving.at))
