-- Between two lines the run is where it was at first, or further.
use Rattle.std.proofs.Common.{List, ◌≤◌, ◌<◌, ◌+◌, ◌*◌, ◌^◌, Some, length}
use Rattle.script_form.specs.declared.handset.HandsetLine.{HandsetLine}
use Rattle.run_steps.specs.Ends.{moment_at}
use Rattle.long_runs.specs.declared.load_lines.TheConstants.{LONGEST_SPAN}
use Rattle.phone_runs.specs.LoadingLines.{IsLoading}
use Rattle.phone_runs.specs.Runs.{Beginning}
use Rattle.phone_runs.specs.Serving.{IsAtRest}
use Rattle.phone_runs.proofs.counting.serve_all.Given as goal

abbrev pub invariant-loop-failed : goal.invariant-loop-failed
invariant-loop-failed g l = record {
  loading : (made : List HandsetLine) (given : Beginning) → IsLoading made given l.initial.lines l.initial.phone (moment_at l.initial.card (Some l.initial.sink))
      → IsLoading made given l.lines l.phone (moment_at l.card (Some l.sink));
  rest : IsAtRest l.phone;
  clock : l.phone.known.clock + length l.lines * LONGEST_SPAN < 2 ^ 63;
  kept : l.initial.card.parts.meter.faults ≤ l.card.parts.meter.faults;
}

abbrev pub decreases-loop-failed : goal.decreases-loop-failed
decreases-loop-failed g l = length l.lines
