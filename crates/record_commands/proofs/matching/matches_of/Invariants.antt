use Rattle.std.proofs.Common.{◌≡◌, ◌+◌, ◌≤◌, ◌++◌, length, All, IfSome, filter, Ok}
use Rattle.card_state.specs.Memory.{Reads, held_by, memory}
use Rattle.record_commands.specs.Searching.{is_match, numbers_left, IsRecord}
use Rattle.record_commands.proofs.matching.matches_of.Given as goal

abbrev pub decreases-loop-left : goal.decreases-loop-left
decreases-loop-left g l = l.left

abbrev pub invariant-loop-left : goal.invariant-loop-left
invariant-loop-left g l = record {
  bound : l.left ≤ l.fn.file.count;
  room : length l.found + l.left ≤ 255;
  among : All (IsRecord l.fn.file) l.found;
  seen : IfSome (held_by g.S.Store l.initial.store) (λ state. l.found ++ filter (is_match state l.fn.file l.fn.wanted) (numbers_left l.fn.is_forward 1 l.fn.file.count l.left) ≡ filter (is_match state l.fn.file l.fn.wanted) (numbers_left l.fn.is_forward 1 l.fn.file.count l.fn.count));
  reads : Reads {T = Unit {0}} (memory g.S.Store l.initial.store l.fn.loaded) (memory g.S.Store l.store l.fn.loaded) (Ok tt);
}
