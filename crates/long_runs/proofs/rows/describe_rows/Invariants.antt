use Rattle.std.proofs.Common.{◌≤◌, ◌-◌, length}
use Rattle.applet_trait.specs.Minds.{minds_of}
use Rattle.long_runs.specs.FixedRows.{fixed_rows}
use Rattle.long_runs.specs.Rows.{AreDescribed}
use Rattle.long_runs.proofs.rows.describe_rows.Given as goal

abbrev pub invariant-loop-line : goal.invariant-loop-line
invariant-loop-line g l = record {
  within : l.place ≤ length fixed_rows;
  described : AreDescribed (minds_of g.B.Applet.mind l.cast) l.initial.section l.place l.section;
}

abbrev pub decreases-loop-line : goal.decreases-loop-line
decreases-loop-line g l = length fixed_rows - l.place
