-- The timers that were passed are left, and the others stand as they were.
use Rattle.std.proofs.Common.{◌≡◌, map, take, drop, ◌++◌}
use Rattle.timer_table.specs.Timers.{without}
use Rattle.timer_table.proofs.timers.Timers.free_all.Given as goal

abbrev pub invariant-loop-held : goal.invariant-loop-held
invariant-loop-held l =
    l.held-items ≡ map (without l.owner) (take l.held-index l.initial.held-items) ++ drop l.held-index l.initial.held-items
