-- What holds of every run of a handset.
use Rattle.std.specs.Prelude.{◌≡◌, List}
use Rattle.card_model.specs.States.{Machine}
use Rattle.card_laws.specs.Faults.{ShowsNoCut, ShowsNoFailure}
use Rattle.handset_model.specs.Legal.{IsBegun, IsLegal}
use Rattle.handset_model.specs.Rules.{asked}
use Rattle.handset_model.specs.declared.known.Duty.TheVariants.{Rest}
use Rattle.run_steps.specs.Stepping.{Moment}
use Rattle.run_steps.specs.Views.{CardView, RunShows, TheCard}
use Rattle.run_steps.specs.declared.steps.StepEnd.{StepEnd}
use Rattle.phone_runs.specs.Logs.{Event, PhoneLine, heard, history, log_lines, shown, steps, trace}
use Rattle.phone_runs.specs.Runs.{Beginning, RunEnds, IsPhoneRun, ShowsBegun, EndIsOfTheCard}

-- where nothing more is asked for, the trace is the one that the rules of the handset ask for
abbrev pub RunsAreLegal : Type 0
RunsAreLegal = (first now : CardView) (log : List Event) → IsPhoneRun first log now → asked (history log) ≡ Rest → IsLegal (heard (log_lines log)) (trace log)

-- at any place it is the beginning of such a one
abbrev pub RunsAreBegun : Type 0
RunsAreBegun = (first now : CardView) (log : List Event) → IsPhoneRun first log now → IsBegun (heard (log_lines log)) (trace log)

-- the trace without its notes is that of a run of the card
abbrev pub RunsAreOfTheCard : Type 0
RunsAreOfTheCard = (first now : CardView) (log : List Event) → IsPhoneRun first log now → RunShows first (steps log) (shown log) now

-- so it is where the sink failed, and where the memory failed in a reset
abbrev pub EndsAreBegun : Type 0
EndsAreBegun = (given : Beginning) (told : List PhoneLine) (now : Moment) (end : StepEnd) → RunEnds given told now end → ShowsBegun given told now

-- ---- the card at those two ends

-- Also at those two ends the trace without its notes is that of a run of the card.
abbrev pub EndsAreOfTheCard : Type 0
EndsAreOfTheCard = (given : Beginning) (told : List PhoneLine) (now : Moment) (end : StepEnd) → (ends : RunEnds given told now end) → EndIsOfTheCard given told now end ends

-- ---- one trace

-- A run over these lines, on a card that stood so at first: nothing more is asked for at its end, nothing failed in it, and no power was
-- lost.
pub record IsPhoneUndisturbed (first : Machine) (told : List PhoneLine) (log : List Event) (now : CardView) : Type 0 where
  pub run : IsPhoneRun (TheCard first) log now
  pub lines_are : log_lines log ≡ told
  pub rests : asked (history log) ≡ Rest
  pub failures : ShowsNoFailure (shown log)
  pub cuts : ShowsNoCut (shown log)

-- The same happened in two runs, so they show one trace, and the card after them is the same.
pub record AreOne (log other : List Event) (now left : CardView) : Type 0 where
  pub happened : log ≡ other
  pub shows : trace log ≡ trace other
  pub card : now ≡ left

-- Lines and a card determine what happens, where nothing fails and no power is lost.
abbrev pub PhoneRunsAreOne : Type 0
PhoneRunsAreOne =
    (first : Machine) (now left : CardView) (told : List PhoneLine) (log other : List Event)
    → IsPhoneUndisturbed first told log now → IsPhoneUndisturbed first told other left → AreOne log other now left
