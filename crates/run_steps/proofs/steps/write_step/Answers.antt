use Rattle.run_steps.proofs.TakesFrontLemmas.{tells_front, tells_whole}
use Rattle.run_steps.proofs.steps.write_step.Goals as goal

pub returns-in-Ok-clause-tells : goal.returns-in-Ok-clause-tells
returns-in-Ok-clause-tells g c = tells_whole _ _ _ c.in-Ok.ensures.ok

pub returns-in-Err-clause-tells : goal.returns-in-Err-clause-tells
returns-in-Err-clause-tells g c = tells_front _ _ _ c.in-Err.ensures.err
