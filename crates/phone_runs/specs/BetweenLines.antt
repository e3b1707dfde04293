-- Where the run of a handset stands between two lines of a script, and what a line comes to. A whole run is told without it.
use Rattle.std.specs.Prelude.{ℕ, List, Option, ◌≡◌, ◌≤◌, ◌*◌, ◌<◌, Result, Ok, Err}
use Rattle.byte_streams.specs.Lines.{LineList}
use Rattle.script_form.specs.declared.lines.ScriptLine.{ScriptLine}
use Rattle.script_reader.specs.Reading.{Follows, line_count, room_of}
use Rattle.script_reader.specs.Said.{AreRead}
use Rattle.script_reader.specs.declared.behind.PlayEnd.{PlayEnd}
use Rattle.script_reader.specs.declared.behind.PlayEnd.TheVariants.{SinkFailed, ResetFailed}
use Rattle.script_reader.specs.declared.reader.ScriptReader.{ScriptReader}
use Rattle.handset_model.specs.Rules.{asked}
use Rattle.handset_model.specs.declared.known.Duty.TheVariants.{Rest}
use Rattle.terminal_side.specs.Kept.{Kept}
use Rattle.run_steps.specs.Stepping.{Moment}
use Rattle.run_steps.specs.declared.steps.StepEnd.{StepEnd}
use Rattle.run_steps.specs.declared.steps.StepEnd.TheVariants as step_end
use Rattle.phone_runs.specs.Lines.{AreServed, told_back, PhoneComesTo}
use Rattle.phone_runs.specs.Logs.{Event, history, lines_back}
use Rattle.phone_runs.specs.Playing.{Begins}
use Rattle.phone_runs.specs.Runs.{Beginning}
use Rattle.phone_runs.specs.Serving.{IsAtRest}
use Rattle.phone_runs.specs.Settling.{IsAt}
use Rattle.phone_runs.specs.declared.effects.TheConstants.{LONGEST_SPAN}

-- the lines up to `start` were read, and nothing has happened since the card was opened
pub record StandsAtStart (text : List ℕ) (opening : List ScriptLine) (given : Beginning) (script : ScriptReader) (left : Option (List ℕ)) (now : Moment) : Type 0 where
  pub found : LineList
  pub read : AreRead found opening
  pub follows : Follows text found script left
  pub begins : Begins given now

-- lines after `start` have been carried out, all that happened was taken by the sink, and the handset rests
pub record IsServing (text : List ℕ) (opening : List ScriptLine) (given : Beginning) (script : ScriptReader) (left : Option (List ℕ)) (phone : Kept) (now : Moment) : Type 0 where
  pub found : LineList
  pub played : List ScriptLine
  pub log : List Event
  pub are_served : AreServed opening found played
  pub follows : Follows text found script left
  pub told : lines_back log ≡ told_back played
  pub at : IsAt given log phone now
  pub rests : asked (history log) ≡ Rest

-- The handset rests before the next line, and the lines before it let no more time pass together than so many may.
pub record IsBetweenLines (script : ScriptReader) (phone : Kept) : Type 0 where
  pub rest : IsAtRest phone
  pub clock : phone.known.clock ≤ line_count script * LONGEST_SPAN

-- so it is again after a line, and less is left of the script
pub record IsLineFurther (old new : ScriptReader) (phone : Kept) : Type 0 where
  pub between : IsBetweenLines new phone
  pub nearer : room_of new < room_of old

-- what a line comes to: it was carried out, or the run ends
abbrev pub GivesServed : List ℕ → List ScriptLine → Beginning → ScriptReader → Option (List ℕ) → Kept → Moment → Result (Unit {0}) PlayEnd → Type 0
GivesServed text opening given script left phone now (Ok done) = IsServing text opening given script left phone now
GivesServed text opening given script left phone now (Err end) = PhoneComesTo text opening given left end now

-- a step that was the last ends the lines so
abbrev pub EndsAmid : StepEnd → PlayEnd → Type 0
EndsAmid step_end.SinkFailed end = end ≡ SinkFailed
EndsAmid step_end.ResetFailed end = end ≡ ResetFailed
