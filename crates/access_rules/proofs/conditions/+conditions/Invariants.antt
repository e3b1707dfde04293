-- A call goes one step down, and each group takes one level; the loop goes on with what is left.
use Rattle.std.proofs.Common.{◌*◌, ◌+◌, length}
use Rattle.access_rules.proofs.HoldByLemmas.{Passed}
use Rattle.access_rules.proofs.conditions.+conditions.Given as goal

abbrev pub decreases-condition_at : goal.decreases-condition_at
decreases-condition_at l = 4 * l.levels + 2

abbrev pub decreases-condition_holds : goal.decreases-condition_holds
decreases-condition_holds l = 4 * l.levels + 1

abbrev pub decreases-group_holds : goal.decreases-group_holds
decreases-group_holds l = 4 * l.levels

abbrev pub decreases-conditions_hold : goal.decreases-conditions_hold
decreases-conditions_hold l = 4 * l.levels + 3

abbrev pub invariant-conditions_hold-loop-rest : goal.invariant-conditions_hold-loop-rest
invariant-conditions_hold-loop-rest l = Passed l.needs l.levels l.seen l.value l.rest l.truth

abbrev pub decreases-conditions_hold-loop-rest : goal.decreases-conditions_hold-loop-rest
decreases-conditions_hold-loop-rest l = length l.rest
