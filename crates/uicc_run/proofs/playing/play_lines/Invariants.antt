-- Between two lines the run is where it was at first, or further.
use Rattle.std.proofs.Common.{◌≡◌, List, ℕ, is_some, ◌≤◌, true, false}
use Rattle.byte_streams.specs.Reading.{IsWithin}
use Rattle.script_form.specs.declared.lines.ScriptLine.{ScriptLine}
use Rattle.run_steps.specs.Ends.{moment_at}
use Rattle.run_steps.specs.Views.{CardView}
use Rattle.phone_runs.specs.BetweenLines.{IsBetweenLines, IsServing}
use Rattle.phone_runs.specs.Runs.{Beginning}
use Rattle.uicc_run.specs.Opening.{is_handset}
use Rattle.uicc_run.specs.Playing.{Given}
use Rattle.uicc_run.specs.BetweenLines.{IsPlaying}
use Rattle.uicc_run.proofs.playing.play_lines.Given as goal

abbrev pub invariant-loop-script : goal.invariant-loop-script
invariant-loop-script g l = record {
  playing : (given : Given) (first : CardView) → is_handset l.listener ≡ false → IsPlaying given first l.initial.script (g.R.Source.left l.initial.source) l.initial.link.kept (moment_at l.initial.card (g.W.Sink.taken l.initial.trace))
      → IsPlaying given first l.script (g.R.Source.left l.source) l.link.kept (moment_at l.card (g.W.Sink.taken l.trace));
  serving : (text : List ℕ) (opening : List ScriptLine) (given : Beginning) → is_handset l.listener ≡ true → IsServing text opening given l.initial.script (g.R.Source.left l.initial.source) l.initial.phone (moment_at l.initial.card (g.W.Sink.taken l.initial.trace))
      → IsServing text opening given l.script (g.R.Source.left l.source) l.phone (moment_at l.card (g.W.Sink.taken l.trace));
  between : is_handset l.listener ≡ true → IsBetweenLines l.script l.phone;
  within : (text : List ℕ) → IsWithin text l.initial.script.reader (g.R.Source.left l.initial.source) → IsWithin text l.script.reader (g.R.Source.left l.source);
  kept : l.initial.card.parts.meter.faults ≤ l.card.parts.meter.faults;
  no_failure : g.R.Source.faults l.source ≡ g.R.Source.faults l.initial.source;
  sink_kept : g.W.Sink.faults l.trace ≡ g.W.Sink.faults l.initial.trace;
  tells : is_some (g.W.Sink.taken l.trace) ≡ is_some (g.W.Sink.taken l.initial.trace);
}

abbrev pub decreases-loop-script : goal.decreases-loop-script
decreases-loop-script g l = l.script.reader.room
