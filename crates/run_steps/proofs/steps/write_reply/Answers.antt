use Rattle.run_steps.proofs.TakesFrontLemmas.{tells_front, tells_whole}
use Rattle.run_steps.proofs.steps.write_reply.Goals as goal

pub returns-in-PowerLost-clause-err : goal.returns-in-PowerLost-clause-err
returns-in-PowerLost-clause-err g c = rw c.in-Err.is (rw c.in-PowerLost.is c.write_step.ensures.err)

pub returns-in-NoPower-clause-err : goal.returns-in-NoPower-clause-err
returns-in-NoPower-clause-err g c = rw c.in-Err.is (rw c.in-NoPower.is c.write_step-in-NoPower.ensures.err)

pub returns-in-Ok-write_answer-clause-tells : goal.returns-in-Ok-write_answer-clause-tells
returns-in-Ok-write_answer-clause-tells g c = tells_whole _ _ _ c.in-Ok-write_answer.ensures.ok

pub returns-in-Err-write_answer-clause-tells : goal.returns-in-Err-write_answer-clause-tells
returns-in-Err-write_answer-clause-tells g c = tells_front _ _ _ c.in-Err-write_answer.ensures.err
