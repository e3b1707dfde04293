-- The status and the last line of each end of a run, and which ends are alike.
use Rattle.std.specs.Prelude.{◌≡◌, ◌⊎◌, ℕ, false, List, [], ◌∷◌, Option, None, ◌≤◌}
use Rattle.uicc_types.specs.Counts.{Meter, Rose}
use Rattle.script_form.specs.declared.trace.TraceLine.{TraceLine}
use Rattle.script_form.specs.declared.trace.TraceLine.TheVariants as line
use Rattle.script_reader.specs.declared.behind.PlayEnd.TheVariants as play
use Rattle.script_reader.specs.declared.faults.ScriptFault.TheVariants as script
use Rattle.card_state.specs.Persistent.{Persistent}
use Rattle.long_runs.specs.declared.counts.Counts.{Counts}
use Rattle.uicc_run.specs.declared.endings.Ending.{Ending}
use Rattle.uicc_run.specs.declared.endings.Ending.TheVariants.{Usage, NoMemory, Section, MemoryFailed, NoCard, Played, Counted}
use Rattle.uicc_run.specs.declared.endings.Task.TheVariants as task
use Rattle.uicc_run.specs.declared.endings.Refusal.{Refusal}
use Rattle.uicc_run.specs.declared.endings.Refusal.TheVariants.{NotACard, NoApplet}

-- the status that the program ends with
abbrev pub status_for : Ending → ℕ
status_for (Played play.Finished) = 0
status_for Usage = 1
status_for (Section (script.BadLine number)) = 2
status_for (Played (play.BadLine number)) = 2
status_for (Section script.ReadFailed) = 3
status_for (Played play.ReadFailed) = 3
status_for (Played play.SinkFailed) = 4
status_for NoMemory = 5
status_for (MemoryFailed when) = 6
status_for (Played play.ResetFailed) = 6
status_for (NoCard why) = 7
status_for (Section (script.NoRoom number)) = 8
status_for (Counted lines counts) = 0

-- the line of what is counted in a long run of so many lines
abbrev pub line_of_counts : ℕ → Counts → TraceLine
line_of_counts lines counts = line.Counts lines counts.commands counts.fetches counts.responses counts.envelopes counts.busy

-- the line that says why a card can't be opened
abbrev pub refusal_line : Refusal → TraceLine
refusal_line (NotACard at) = line.NotACard at
refusal_line (NoApplet shelf) = line.NoApplet shelf

-- The line that the trace ends with, where there is one. A reset in which the memory fails has shown its line already.
abbrev pub line_for : Ending → List TraceLine
line_for (Played play.Finished) = []
line_for Usage = line.Usage ∷ []
line_for (Section (script.BadLine number)) = line.Line number ∷ []
line_for (Played (play.BadLine number)) = line.Line number ∷ []
line_for (Section script.ReadFailed) = line.ReadFailed ∷ []
line_for (Played play.ReadFailed) = line.ReadFailed ∷ []
line_for (Played play.SinkFailed) = []
line_for NoMemory = line.NoMemory ∷ []
line_for (MemoryFailed when) = line.EepromFailed ∷ []
line_for (Played play.ResetFailed) = []
line_for (NoCard why) = refusal_line why ∷ []
line_for (Section (script.NoRoom number)) = line.Line number ∷ []
line_for (Counted lines counts) = line_of_counts lines counts ∷ []

-- an end before anything was done to the card's memory
abbrev pub IsEarly : Ending → Type 0
IsEarly Usage = Unit {0}
IsEarly (Section fault) = Unit {0}
IsEarly ending = ⊥

-- the memory failed or lost power, or had none
abbrev pub HasFailed : Meter → Meter → Type 0
HasFailed old new = Rose old.faults new.faults ⊎ (Rose old.cuts new.cuts ⊎ (old.powered ≡ false))

-- an end at which no card was open
abbrev pub IsUnopened : Ending → Type 0
IsUnopened (Played end) = ⊥
IsUnopened (Counted lines counts) = ⊥
IsUnopened (MemoryFailed task.Counting) = ⊥
IsUnopened ending = Unit {0}

-- an end at which each byte of a memory that was to be opened is kept, which held this card or none: the card was not opened, though
-- the memory didn't fail; or it failed, and held none
abbrev pub KeepsBytes : Ending → Option Persistent → Type 0
KeepsBytes NoMemory held = Unit {0}
KeepsBytes (MemoryFailed task.Opening) None = Unit {0}
KeepsBytes (NoCard why) held = Unit {0}
KeepsBytes ending held = ⊥

-- The device was told of no plan, so that the one before is in force still, and no count fell. Nothing is shown of a fault that was met: the
-- end of the run tells it.
pub record IsUnplanned (old new : Meter) : Type 0 where
  pub faults_kept : old.faults ≤ new.faults
  pub cuts_kept : old.cuts ≤ new.cuts
  pub plans_kept : new.plans ≡ old.plans
  pub latest_kept : new.latest ≡ old.latest
  pub plan_kept : new.plan ≡ old.plan
  pub settings_kept : new.settings ≡ old.settings
