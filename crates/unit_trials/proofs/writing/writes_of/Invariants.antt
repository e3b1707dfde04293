use Rattle.std.specs.Prelude.{All}
use Rattle.store_form.specs.Pieces.{IsUsablePiece}
use Rattle.unit_trials.proofs.writing.writes_of.Given as goal

abbrev pub invariant-loop-piece : goal.invariant-loop-piece
invariant-loop-piece l = All (IsUsablePiece 65536) l.writes
