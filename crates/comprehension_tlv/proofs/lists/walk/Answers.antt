use Rattle.std.proofs.Common.{arith}
use Rattle.comprehension_tlv.proofs.OutlineAtLemmas.{outline_at_is}
use Rattle.comprehension_tlv.proofs.lists.walk.Goals as goal

pub returns-clause-spelled : goal.returns-clause-spelled
returns-clause-spelled c = rw c.over.ensures (outline_at_is 0 c.args.bytes.now (λ i. omega (arith, c.type_inv.bytes i)))
