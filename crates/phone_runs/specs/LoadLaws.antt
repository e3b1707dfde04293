-- What holds of long runs.
use Rattle.std.specs.Prelude.{◌≡◌, true, List}
use Rattle.script_form.specs.declared.handset.HandsetLine.{HandsetLine}
use Rattle.card_model.specs.States.{Machine}
use Rattle.card_laws.specs.Faults.{CountsNoFault}
use Rattle.run_steps.specs.Stepping.{Moment}
use Rattle.run_steps.specs.Views.{TheCard}
use Rattle.long_runs.specs.declared.counts.Counts.{Counts}
use Rattle.phone_runs.specs.LoadRuns.{IsCountedRun}
use Rattle.phone_runs.specs.Runs.{Beginning}

-- A run over these lines, in which the device of the memory counts neither a failure nor a loss of power: this is counted in its trace.
pub record IsCalmLoad (made : List HandsetLine) (given : Beginning) (counts : Counts) (now : Moment) : Type 0 where
  pub run : IsCountedRun made given counts now
  pub calm : CountsNoFault given.meter now.meter

-- Lines and a card with power determine what is counted there, and what the memory holds at the end.
abbrev pub LoadRunsAreOne : Type 0
LoadRunsAreOne =
    (made : List HandsetLine) (given : Beginning) (first : Machine) (counts others : Counts) (now left : Moment) → given.first ≡ TheCard first → first.on ≡ true
    → IsCalmLoad made given counts now → IsCalmLoad made given others left → (counts ≡ others) × (now.held ≡ left.held)
