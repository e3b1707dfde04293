-- Done, cut or failed, the reset stands between a plan set and taken back, and the sink may break off in its line.
use Rattle.std.proofs.Common.{ap, is_err, rules}
use Rattle.run_steps.proofs.SteppingLemmas.{broken_at, failed_at, faults_behind, reset_failed, restarted_at, with_plan}
use Rattle.run_steps.proofs.steps.restart.Goals as goal

pub returns-in-Ok-outcome-clause-gives : goal.returns-in-Ok-outcome-clause-gives
returns-in-Ok-outcome-clause-gives g c = λ old is.
    restarted_at old c.args.end.now c.set_plan-is_set.new.self c.reset-outcome.new.self c.clear_plan.new.self _ _ c.runs_are_counted.ensures.plans
    (with_plan c.args.end.now c.set_plan-is_set.new.self c.reset-outcome.new.self c.clear_plan.new.self c.set_plan-is_set.result c.set_plan-is_set.ensures.set c.set_plan-is_set.ensures.is_set c.reset-outcome.ensures.waits c.clear_plan.ensures) is
    c.reset-outcome.result c.reset_line.result c.reset_line.ensures c.reset-outcome.ensures.takes c.in-Ok-outcome.restarted c.in-Ok-outcome.is c.in-Ok.ensures.ok

pub returns-in-Err-outcome-clause-gives : goal.returns-in-Err-outcome-clause-gives
returns-in-Err-outcome-clause-gives g c = λ old is.
    failed_at old c.args.end.now c.set_plan-is_set.new.self c.reset-outcome.new.self c.clear_plan.new.self _ _ c.runs_are_counted.ensures.plans
    (with_plan c.args.end.now c.set_plan-is_set.new.self c.reset-outcome.new.self c.clear_plan.new.self c.set_plan-is_set.result c.set_plan-is_set.ensures.set c.set_plan-is_set.ensures.is_set c.reset-outcome.ensures.waits c.clear_plan.ensures) is
    c.reset-outcome.result c.reset_line.result c.reset_line.ensures c.reset-outcome.ensures.takes _ c.in-Err-outcome.is c.in-Ok.ensures.ok

pub returns-in-Err-clause-gives : goal.returns-in-Err-clause-gives
returns-in-Err-clause-gives g c = λ old is.
    broken_at old c.args.end.now c.set_plan-is_set.new.self c.reset-outcome.new.self c.clear_plan.new.self _ _ c.runs_are_counted.ensures.plans
    (with_plan c.args.end.now c.set_plan-is_set.new.self c.reset-outcome.new.self c.clear_plan.new.self c.set_plan-is_set.result c.set_plan-is_set.ensures.set c.set_plan-is_set.ensures.is_set c.reset-outcome.ensures.waits c.clear_plan.ensures) is
    c.reset-outcome.result c.reset_line.result c.reset_line.ensures c.reset-outcome.ensures.takes c.in-Err.ensures.err

pub returns-in-Ok-outcome-clause-tallies : goal.returns-in-Ok-outcome-clause-tallies
returns-in-Ok-outcome-clause-tallies g c = search (rules, faults_behind, with_plan)

pub returns-in-Err-outcome-clause-tallies : goal.returns-in-Err-outcome-clause-tallies
returns-in-Err-outcome-clause-tallies g c = search (rules, faults_behind, with_plan)

pub returns-in-Err-clause-tallies : goal.returns-in-Err-clause-tallies
returns-in-Err-clause-tallies g c = search (rules, faults_behind, with_plan)

pub returns-in-Err-outcome-clause-failed : goal.returns-in-Err-outcome-clause-failed
returns-in-Err-outcome-clause-failed g c = λ same.
    reset_failed c.args.end.now c.set_plan-is_set.new.self c.reset-outcome.new.self c.clear_plan.new.self
    (with_plan c.args.end.now c.set_plan-is_set.new.self c.reset-outcome.new.self c.clear_plan.new.self c.set_plan-is_set.result c.set_plan-is_set.ensures.set c.set_plan-is_set.ensures.is_set c.reset-outcome.ensures.waits c.clear_plan.ensures) (c.reset-outcome.ensures.takes.failed (ap is_err c.in-Err-outcome.is))
