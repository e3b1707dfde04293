-- Where a card stands between two steps, how that is seen, and what a step shows in which the sink fails.
use Rattle.std.specs.Prelude.{◌≡◌, ◌⊎◌, ℕ, Bool, true, List, [], ◌∷◌, ◌++◌, Option, Some}
use Rattle.uicc_types.specs.Counts.{Meter}
use Rattle.uicc_types.specs.Told.{IsFront}
use Rattle.uicc_types.specs.declared.plans.Plan.{Plan}
use Rattle.uicc_types.specs.declared.runs.Step.{Step}
use Rattle.uicc_types.specs.declared.runs.Step.TheVariants as step
use Rattle.uicc_types.specs.declared.runs.TraceItem.{TraceItem}
use Rattle.uicc_types.specs.declared.runs.TraceItem.TheVariants as item
use Rattle.card_state.specs.Persistent.{Persistent}
use Rattle.applet_trait.specs.Minds.{AppletState}
use Rattle.card_model.specs.States.{Machine}
use Rattle.run_steps.specs.Runs.{ends_calm, item_text, text_of}
use Rattle.run_steps.specs.Views.{CardView, Known, LastShows, StepShows}

-- the card with its power and what its store stands for, where that tells its bytes; whether it has power, which is known over any
-- store; what the sink has taken; the counts of the device; the minds in the boxes; whether the card still has to wake them, as after a
-- fault; and the plan that waits
pub record Moment : Type 0 where
  pub machine : Option Machine
  pub held : Option Persistent
  pub is_on : Bool
  pub taken : Option (List ℕ)
  pub meter : Meter
  pub boxes : List (Option AppletState)
  pub is_due : Bool
  pub waiting : Plan

-- of these items the sink has taken the lines of all but the last, and the beginning of that one's, be it none or all
pub record IsCutOff (pending : List TraceItem) (front : List ℕ) : Type 0 where
  pub whole : List TraceItem
  pub last : TraceItem
  pub part : List ℕ
  pub parted : pending ≡ whole ++ last ∷ []
  pub begun : IsFront part (item_text last)
  pub written : front ≡ text_of whole ++ part

-- ---- where the card stands

-- the card is seen so, by the machine that it is, where that is known, and its power
abbrev pub IsSeenBy : CardView → Option Machine → Bool → Type 0
IsSeenBy card machine is_on = Known (λ known. machine ≡ Some known) (λ on. is_on ≡ on) card

-- the card is seen so at a moment of a run
abbrev pub IsSeen : CardView → Moment → Type 0
IsSeen card now = IsSeenBy card now.machine now.is_on

-- The memory stands for what the card holds for good. Where its power alone is known this says nothing.
abbrev pub Holds : CardView → Option Persistent → Type 0
Holds card held = Known (λ machine. held ≡ Some machine.card.persistent) (λ on. Unit {0}) card

-- What the card itself leaves at the end of what was shown: its memory stands for what it holds, and unless the memory failed,
-- or power was lost or off, in the last command or reset, just the boxes that it has are there, with the minds that they have.
pub record CardStands (machine : Machine) (shown : List TraceItem) (now : Moment) : Type 0 where
  pub stands : now.held ≡ Some machine.card.persistent
  pub minds : ends_calm shown ≡ true → now.boxes ≡ machine.card.boxes

-- the same by what is known of the card; of its power nothing
abbrev pub Stands : CardView → List TraceItem → Moment → Type 0
Stands card shown now = Known (λ machine. CardStands machine shown now) (λ on. Unit {0}) card

-- ---- a step

-- What a step was to show up to the line in which the sink fails, that line included; which plans were set, of those that were due; and how
-- the card is seen then. Of a command it is the command's own line, with the card as it was and no plan set, or all that the command shows; of a
-- reset all that it shows, be the memory's failure the end of it. The step of a plan shows nothing, so the sink fails in none.
abbrev pub BreaksOff : CardView → Step → List TraceItem → List Plan → List Plan → CardView → Type 0
BreaksOff old (step.Apdu apdu) items due set new =
    ((items ≡ item.Command apdu ∷ []) × (new ≡ old) × (set ≡ [])) ⊎ (StepShows old (step.Apdu apdu) items new × (set ≡ due))
BreaksOff old step.Reset items due set new = (StepShows old step.Reset items new ⊎ LastShows old step.Reset items new) × (set ≡ due)
BreaksOff old (step.Plan plan) items due set new = ⊥
