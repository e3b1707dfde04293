use Rattle.std.proofs.Common.{arith}
use Rattle.record_commands.proofs.HasWithinLemmas.{nowhere}
use Rattle.record_commands.proofs.matching.is_there.Goals as goal

pub returns-in-None : goal.returns-in-None
returns-in-None c = λ no others at width. nowhere c.args.first others c.args.held.now (λ k below. c.in-None.ensures k (omega arith) below) at width
