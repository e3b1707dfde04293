-- The lists that were passed are left, and the others stand as they were.
use Rattle.std.proofs.Common.{◌≡◌, map, take, drop, ◌++◌}
use Rattle.event_dispatch.specs.Indexes.{left_by}
use Rattle.event_dispatch.proofs.leaving.leave_all.Given as goal

abbrev pub invariant-loop-shelves : goal.invariant-loop-shelves
invariant-loop-shelves l =
    l.lists ≡ map (left_by l.shelf.0) (take l.shelves-index l.initial.lists) ++ drop l.shelves-index l.initial.lists
