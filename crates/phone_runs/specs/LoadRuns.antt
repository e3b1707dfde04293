-- A long run of a handset, and what is counted in its trace.
use Rattle.std.specs.Prelude.{◌≡◌, List, [], ◌++◌, map, reverse}
use Rattle.script_form.specs.declared.handset.HandsetLine.{HandsetLine}
use Rattle.script_form.specs.declared.trace.TraceLine.{TraceLine}
use Rattle.script_form.specs.declared.trace.TraceLine.TheVariants.{Note}
use Rattle.card_model.specs.Counts.{IsCounted}
use Rattle.handset_model.specs.Legal.{TraceEntry, Seen, Shown}
use Rattle.handset_model.specs.Rules.{asked}
use Rattle.handset_model.specs.declared.known.Duty.TheVariants.{Rest}
use Rattle.run_steps.specs.Runs.{line_of}
use Rattle.run_steps.specs.Stepping.{Moment, Stands}
use Rattle.run_steps.specs.Views.{CardView}
use Rattle.run_steps.specs.declared.steps.StepEnd.TheVariants.{ResetFailed}
use Rattle.long_runs.specs.Counts.{counts_of}
use Rattle.long_runs.specs.declared.counts.Counts.{Counts}
use Rattle.phone_runs.specs.Logs.{Event, Hears, PhoneLine, history, log_lines, shown, trace}
use Rattle.phone_runs.specs.Runs.{Beginning, RunEnds, IsPhoneRun}

-- the line of a trace that shows an entry
abbrev pub entry_line : TraceEntry → TraceLine
entry_line (Seen item) = line_of item
entry_line (Shown note) = Note note

-- the handset hears these lines, and no faults are planned
abbrev pub all_heard : List HandsetLine → List PhoneLine
all_heard made = map Hears made

-- This is counted in the trace of a run of a handset over these lines, on a card that stood so at first.
pub record IsCountedRun (made : List HandsetLine) (given : Beginning) (counts : Counts) (now : Moment) : Type 0 where
  pub log : List Event
  pub card : CardView
  pub run : IsPhoneRun given.first log card
  pub lines_are : log_lines log ≡ all_heard made
  pub rests : asked (history log) ≡ Rest
  pub counts_are : counts ≡ counts_of (map entry_line (trace log))
  pub stands : Stands card (shown log) now
  pub counted : IsCounted given.meter now.meter [] (shown log)

-- the memory failed in a reset that was asked for amid the lines
pub record FailsAmid (made : List HandsetLine) (given : Beginning) (now : Moment) : Type 0 where
  pub told : List PhoneLine
  pub others : List HandsetLine
  pub parted : reverse told ++ all_heard others ≡ all_heard made
  pub ended : RunEnds given told now ResetFailed
