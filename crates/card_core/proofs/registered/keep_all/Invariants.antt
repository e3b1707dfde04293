-- The rows that were passed stand in the places, and after them what stood there.
use Rattle.std.proofs.Common.{◌≡◌, ◌++◌, take, drop}
use Rattle.card_core.proofs.registered.keep_all.Given as goal

abbrev pub invariant-loop-shelf : goal.invariant-loop-shelf
invariant-loop-shelf l = l.places ≡ take l.shelf l.rows ++ drop l.shelf l.initial.places
