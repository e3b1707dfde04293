-- Where the run of a handset stands between two things that are asked for, and what comes of these. The contracts of the functions that
-- have a handset serve a card say this; a whole run is told without it.
use Rattle.std.specs.Prelude.{◌≡◌, List, true, false, Result, Ok, Err, Bool}
use Rattle.std.specs.Io.KnownBytes.{append_known}
use Rattle.uicc_types.specs.declared.plans.TheConstants.Plan.{NONE}
use Rattle.card_model.specs.Counts.{IsCounted}
use Rattle.card_model.specs.Runs.{plan_given, waiting_after}
use Rattle.handset_model.specs.Rules.{asked}
use Rattle.handset_model.specs.declared.known.Duty.TheVariants.{Rest}
use Rattle.terminal_side.specs.Kept.{Kept, kept}
use Rattle.run_steps.specs.Stepping.{IsSeen, Moment}
use Rattle.run_steps.specs.Taking.{Rests as CardRests}
use Rattle.run_steps.specs.Views.{CardView}
use Rattle.run_steps.specs.declared.steps.StepEnd.{StepEnd}
use Rattle.phone_runs.specs.Logs.{Event, history, shown, steps, trace, PhoneLine, lines_back}
use Rattle.phone_runs.specs.Runs.{IsPhoneRun, Beginning, RunEnds, entries_text}

-- this has happened so far, all that it shows was taken, and this is what the handset keeps
pub record IsAt (given : Beginning) (log : List Event) (phone : Kept) (now : Moment) : Type 0 where
  pub card : CardView
  pub run : IsPhoneRun given.first log card
  pub keeps : phone ≡ kept (history log)
  pub seen : IsSeen card now
  pub written : now.taken ≡ append_known given.before (entries_text (trace log))
  pub counted : IsCounted given.meter now.meter (plan_given (steps log)) (shown log)
  pub waits : now.waiting ≡ waiting_after NONE (steps log)
  pub rests : CardRests card (shown log) now.is_due

-- more has happened, with these lines
pub record Reaches (given : Beginning) (heard : List PhoneLine) (phone : Kept) (now : Moment) : Type 0 where
  pub log : List Event
  pub lines_are : lines_back log ≡ heard
  pub at : IsAt given log phone now

-- and the handset rests
pub record Rests (given : Beginning) (heard : List PhoneLine) (phone : Kept) (now : Moment) : Type 0 where
  pub log : List Event
  pub lines_are : lines_back log ≡ heard
  pub at : IsAt given log phone now
  pub done : asked (history log) ≡ Rest

-- what comes of one thing that is asked for: it was done; or nothing is asked for
abbrev pub GoesFurther : Beginning → List PhoneLine → Kept → Moment → Result Bool StepEnd → Type 0
GoesFurther given heard phone now (Ok true) = Reaches given heard phone now
GoesFurther given heard phone now (Ok false) = Rests given heard phone now
GoesFurther given heard phone now (Err end) = RunEnds given heard now end

-- what comes of all that is asked for
abbrev pub Settles : Beginning → List PhoneLine → Kept → Moment → Result (Unit {0}) StepEnd → Type 0
Settles given heard phone now (Ok done) = Rests given heard phone now
Settles given heard phone now (Err end) = RunEnds given heard now end
