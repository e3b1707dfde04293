-- Between two lines the run is where it was at first, or further.
use Rattle.std.proofs.Common.{◌≡◌, List, ℕ, Option, is_some}
use Rattle.byte_streams.specs.Reading.{IsWithin}
use Rattle.bip_runs.specs.BetweenLines.{IsServing}
use Rattle.bip_runs.specs.declared.effects.Place.TheVariants.{Before}
use Rattle.bip_runs.proofs.serving.serve_lines.Given as goal

abbrev pub invariant-loop-end : goal.invariant-loop-end
invariant-loop-end g l = record {
  serving : (text : List ℕ) (before : Option (List ℕ)) → IsServing text before Before l.initial.script (g.R.Source.left l.initial.source) (g.W.Sink.taken l.initial.trace) l.initial.bip
      → IsServing text before l.place l.script (g.R.Source.left l.source) (g.W.Sink.taken l.trace) l.bip;
  within : (text : List ℕ) → IsWithin text l.initial.script.reader (g.R.Source.left l.initial.source) → IsWithin text l.script.reader (g.R.Source.left l.source);
  no_failure : g.R.Source.faults l.source ≡ g.R.Source.faults l.initial.source;
  sink_kept : g.W.Sink.faults l.trace ≡ g.W.Sink.faults l.initial.trace;
  tells : is_some (g.W.Sink.taken l.trace) ≡ is_some (g.W.Sink.taken l.initial.trace);
}

abbrev pub decreases-loop-end : goal.decreases-loop-end
decreases-loop-end g l = l.script.reader.room
