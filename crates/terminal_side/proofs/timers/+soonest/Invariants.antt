use Rattle.std.proofs.Common.{◌≡◌, ◌≤◌, ◌+◌, length}
use Rattle.handset_model.specs.Timers.{soonest}
use Rattle.terminal_side.proofs.timers.+soonest.Given as goal

abbrev pub decreases-soonest : goal.decreases-soonest
decreases-soonest l = length l.timers.now

-- those that were passed don't run
abbrev pub invariant-loop-rest : goal.invariant-loop-rest
invariant-loop-rest l = record {
  same : soonest l.number l.rest ≡ soonest l.fn.timer l.fn.timers;
  ended : l.number + length l.rest ≤ 255;
  fewer : length l.rest ≤ length l.fn.timers;
}

abbrev pub decreases-loop-rest : goal.decreases-loop-rest
decreases-loop-rest l = length l.rest
