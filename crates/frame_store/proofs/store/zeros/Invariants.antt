use Rattle.std.proofs.Common.{◌≡◌, ◌≤◌, ◌-◌}
use Rattle.std.specs.Vec.{vec_len, vec_capacity, vec_ptr}
use Rattle.frame_store.proofs.store.zeros.Given as goal

abbrev pub invariant-loop-list : goal.invariant-loop-list
invariant-loop-list l = (vec_len l.list ≤ l.size) × (vec_ptr l.list ≡ vec_ptr l.initial.list) × (vec_capacity l.list ≡ vec_capacity l.initial.list)

abbrev pub decreases-loop-list : goal.decreases-loop-list
decreases-loop-list l = l.size - vec_len l.list
