use Rattle.std.proofs.Common.{◌≡◌, ◌≤◌, length, take, ◌==◌, not, filter}
use Rattle.proactive_handler.proofs.announced.without.Given as goal

-- those but the code among the first ones
abbrev pub invariant-loop-other : goal.invariant-loop-other
invariant-loop-other l = record {
  left : l.left ≡ filter (λ other. not (other == l.code)) (take l.other-index l.codes);
  long : length l.left ≤ l.other-index;
}
