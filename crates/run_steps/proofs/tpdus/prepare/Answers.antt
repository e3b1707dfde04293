use Rattle.run_steps.proofs.DeliversLemmas.{prepared, unprepared}
use Rattle.run_steps.proofs.tpdus.prepare.Goals as goal

pub returns-then-passed : goal.returns-then-passed
returns-then-passed g c = λ kept. prepared kept c.args.tpdu.now c.args.end.now c.set_plan.new.self c.set_plan.result (cc) c.set_plan.ensures.set c.set_plan.ensures.is_set

pub returns-else-passed : goal.returns-else-passed
returns-else-passed g c = λ kept. unprepared kept c.args.tpdu.now c.args.end.now (cc)
