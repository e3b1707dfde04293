use Rattle.bip_runs.proofs.TakesFrontLemmas.{tells_put}
use Rattle.bip_runs.proofs.happening.tell.Goals as goal

pub returns-in-Some-clause-tells : goal.returns-in-Some-clause-tells
returns-in-Some-clause-tells g c = tells_put c.write_trace.result _ _ _ c.write_trace.ensures.ok c.write_trace.ensures.err
