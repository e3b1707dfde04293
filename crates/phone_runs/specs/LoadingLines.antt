-- Where a long run of a handset stands between two of its lines, and what these come to. A whole run is told without it.
use Rattle.std.specs.Prelude.{◌≡◌, List, ◌++◌, Bool, true, false, [], Result, Ok, Err, ℕ, Option}
use Rattle.uicc_types.specs.declared.plans.Plan.{Plan}
use Rattle.script_form.specs.declared.handset.HandsetLine.{HandsetLine}
use Rattle.card_core.specs.Parts.{CardParts}
use Rattle.handset_model.specs.Rules.{asked}
use Rattle.handset_model.specs.declared.known.Duty.TheVariants.{Rest}
use Rattle.terminal_side.specs.Kept.{Kept}
use Rattle.run_steps.specs.Stepping.{Moment}
use Rattle.run_steps.specs.Taking.{moment}
use Rattle.long_runs.specs.declared.counts.Counts.{Counts}
use Rattle.phone_runs.specs.LoadRuns.{all_heard, FailsAmid, IsCountedRun}
use Rattle.phone_runs.specs.Logs.{Event, history, log_lines}
use Rattle.phone_runs.specs.Runs.{Beginning}
use Rattle.phone_runs.specs.Settling.{IsAt}
use Rattle.run_steps.specs.declared.steps.MemoryFailed.{MemoryFailed}

-- these lines are still to come, and the others were carried out
pub record IsLoading (made : List HandsetLine) (given : Beginning) (others : List HandsetLine) (phone : Kept) (now : Moment) : Type 0 where
  pub log : List Event
  pub parted : log_lines log ++ all_heard others ≡ all_heard made
  pub at : IsAt given log phone now
  pub rests : asked (history log) ≡ Rest

-- what the next line comes to, if there is one
abbrev pub GivesServed : List HandsetLine → Beginning → List HandsetLine → Kept → Moment → Result Bool MemoryFailed → Type 0
GivesServed made given others phone now (Ok true) = IsLoading made given others phone now
GivesServed made given others phone now (Ok false) = (others ≡ []) × IsLoading made given others phone now
GivesServed made given others phone now (Err failed) = FailsAmid made given now

-- what all of them come to
abbrev pub GivesAll : List HandsetLine → Beginning → Kept → Moment → Result (Unit {0}) MemoryFailed → Type 0
GivesAll made given phone now (Ok done) = IsLoading made given [] phone now
GivesAll made given phone now (Err failed) = FailsAmid made given now

-- what the run comes to
abbrev pub GivesLoad : List HandsetLine → Beginning → Moment → Result Counts MemoryFailed → Type 0
GivesLoad made given now (Ok counts) = IsCountedRun made given counts now
GivesLoad made given now (Err failed) = FailsAmid made given now

-- the same, whatever was put into the sink, and whatever plan waits then
pub record Gives (made : List HandsetLine) (given : Beginning) (parts : CardParts) (result : Result Counts MemoryFailed) : Type 0 where
  pub taken : Option (List ℕ)
  pub waiting : Plan
  pub gives : GivesLoad made given (moment parts taken waiting) result
