-- The handset is where it was at first, or further, and less is left for it to do.
use Rattle.std.proofs.Common.{◌≡◌, List, is_some, ◌≤◌}
use Rattle.run_steps.specs.Ends.{moment_at}
use Rattle.phone_runs.specs.Logs.{Event, lines_back}
use Rattle.phone_runs.specs.Runs.{Beginning}
use Rattle.phone_runs.specs.Settling.{IsAt, Reaches}
use Rattle.phone_runs.specs.Serving.{CarriesMore, IsPhoneServed, work_at}
use Rattle.phone_runs.proofs.serving.settle.Given as goal

abbrev pub invariant-loop-end : goal.invariant-loop-end
invariant-loop-end g l = record {
  reached : (given : Beginning) (log : List Event) → IsAt given log l.initial.phone (moment_at l.initial.card (g.W.Sink.taken l.initial.trace))
      → Reaches given (lines_back log) l.phone (moment_at l.card (g.W.Sink.taken l.trace));
  served : IsPhoneServed l.phone;
  clock : l.phone.known.clock ≡ l.initial.phone.known.clock;
  carried : CarriesMore l.initial.phone l.phone l.initial.carrier l.carrier;
  kept : l.initial.card.parts.meter.faults ≤ l.card.parts.meter.faults;
  sink_kept : g.W.Sink.faults l.trace ≡ g.W.Sink.faults l.initial.trace;
  tells : is_some (g.W.Sink.taken l.trace) ≡ is_some (g.W.Sink.taken l.initial.trace);
}

abbrev pub decreases-loop-end : goal.decreases-loop-end
decreases-loop-end g l = work_at l.phone
