-- The clock that is kept.
use Rattle.std.proofs.Common.{List, refl, ◌≡◌}
use Rattle.handset_model.specs.History.{Happened, known, clock}
use Rattle.terminal_side.specs.Kept.{kept}

-- the clock that is kept is the sum of all spans of time so far
pub clock_kept : (h : List Happened) → (kept h).known.clock ≡ clock h
unfolding kept known
clock_kept h = refl
