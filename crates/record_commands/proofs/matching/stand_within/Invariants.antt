use Rattle.std.proofs.Common.{◌≡◌, ◌≤◌, ◌∷◌, length, take}
use Rattle.file_model.specs.Records.{has_within}
use Rattle.record_commands.proofs.matching.stand_within.Given as goal

abbrev pub invariant-loop-at : goal.invariant-loop-at
invariant-loop-at l = record {
  within : l.room ≤ length l.rest;
  same : has_within (l.fn.first ∷ l.fn.others) (take l.room l.rest) ≡ has_within (l.fn.first ∷ l.fn.others) (take l.fn.width l.fn.held);
}

abbrev pub decreases-loop-at : goal.decreases-loop-at
decreases-loop-at l = length l.rest
