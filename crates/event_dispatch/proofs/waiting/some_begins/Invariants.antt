use Rattle.std.proofs.Common.{◌≡◌, drop, ◌==◌, slice_index_or}
use Rattle.std.specs.List.{list_any}
use Rattle.event_dispatch.proofs.waiting.some_begins.Given as goal

-- none passes so far
abbrev pub invariant-loop-at : goal.invariant-loop-at
invariant-loop-at l = list_any (λ part. slice_index_or part 0 0 == l.shelf.0) (drop l.at l.frames.parts) ≡ list_any (λ part. slice_index_or part 0 0 == l.shelf.0) l.frames.parts
