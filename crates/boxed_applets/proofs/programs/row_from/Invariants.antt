use Rattle.std.proofs.Common.{◌≡◌, ◌≤◌, length, ◌+◌, ◌*◌}
use Rattle.applet_trait.specs.Tables.{row_from, rows}
use Rattle.boxed_applets.proofs.RowFromLemmas.{row_among}
use Rattle.boxed_applets.proofs.programs.row_from.Given as goal

abbrev pub invariant-loop-row : goal.invariant-loop-row
invariant-loop-row l = record {
  same : row_among l.place l.from l.event (rows l.rest) ≡ row_from l.from l.event (rows l.kept);
  room : 3 * l.place + length l.rest ≤ 64;
}

abbrev pub decreases-loop-row : goal.decreases-loop-row
decreases-loop-row l = length l.rest
