use Rattle.run_steps.proofs.SteppedLemmas.{changes_no_step, counted_alike}
use Rattle.run_steps.proofs.link_laws.link_changes_no_step.Goals as goal

pub returns-clause-steps : goal.returns-clause-steps
returns-clause-steps c = changes_no_step c.link_changes_no_answer.ensures

pub returns-clause-counts : goal.returns-clause-counts
returns-clause-counts c = counted_alike
