use Rattle.std.proofs.Common.{arith}
use Rattle.page_store.proofs.BlanksLemmas.{first_by}
use Rattle.page_store.proofs.filling.first_map.Goals as goal

pub returns-clause-first : goal.returns-clause-first
returns-clause-first c = first_by c.loop-k.bytes c.loop-k.k (omega (arith, c.loop-k-test.false, c.loop-k.auto.k-end)) c.loop-k.invariant.each
