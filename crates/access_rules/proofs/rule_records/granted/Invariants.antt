-- The whole is a record exactly where what is left is one.
use Rattle.std.proofs.Common.{length}
use Rattle.access_rules.proofs.PairLemmas.{PassedPairs}
use Rattle.access_rules.proofs.rule_records.granted.Given as goal

abbrev pub invariant-loop-rest : goal.invariant-loop-rest
invariant-loop-rest l = PassedPairs l.op l.seen l.rule l.rest l.truth

abbrev pub decreases-loop-rest : goal.decreases-loop-rest
decreases-loop-rest l = length l.rest
