use Rattle.std.proofs.Common.{◌≡◌, ◌+◌, ◌≤◌, ◌++◌, length, All, IfSome, filter}
use Rattle.card_state.specs.Memory.{held_by}
use Rattle.record_commands.specs.Searching.{is_match, numbers_left, IsRecord}
use Rattle.record_commands.proofs.matching.match_together.Given as goal

abbrev pub decreases-loop-left : goal.decreases-loop-left
decreases-loop-left g l = l.left

abbrev pub invariant-loop-left : goal.invariant-loop-left
invariant-loop-left g l = record {
  bound : l.left ≤ l.fn.count;
  room : length l.found + l.left ≤ length l.initial.found + l.fn.count;
  among : All (IsRecord l.fn.file) l.found;
  seen : IfSome (held_by g.S.Store l.initial.store) (λ state. l.found ++ filter (is_match state l.fn.file l.fn.wanted) (numbers_left l.fn.is_forward l.fn.first l.fn.count l.left) ≡ l.initial.found ++ filter (is_match state l.fn.file l.fn.wanted) (numbers_left l.fn.is_forward l.fn.first l.fn.count l.fn.count));
}
