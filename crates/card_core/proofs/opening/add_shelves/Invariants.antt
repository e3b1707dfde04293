-- So many empty shelves were added.
use Rattle.std.proofs.Common.{◌≡◌, ◌++◌, replicate, None}
use Rattle.card_core.proofs.opening.add_shelves.Given as goal

abbrev pub invariant-loop : goal.invariant-loop
invariant-loop g l = l.boxes.items ≡ l.initial.boxes.items ++ replicate l.counter None
