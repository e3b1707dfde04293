-- What is known of the card in a run. Each record of a run takes it, so that each is said once: of the card itself where its memory tells
-- its bytes, and of its power over any memory.
use Rattle.std.specs.Prelude.{◌≡◌, ◌⊎◌, Bool, true, false, List, [], ◌∷◌, ◌++◌, ⊤}
use Rattle.uicc_types.specs.declared.runs.Step.{Step}
use Rattle.uicc_types.specs.declared.runs.Step.TheVariants as step
use Rattle.uicc_types.specs.declared.runs.TraceItem.{TraceItem}
use Rattle.uicc_types.specs.declared.runs.TraceItem.TheVariants as item
use Rattle.card_model.specs.Counts.{is_failure}
use Rattle.card_model.specs.Runs.{IsRun, StepEnds, StepGives}
use Rattle.card_model.specs.States.{Machine}
use Rattle.run_steps.specs.Runs.{GoesOn}

-- the card itself, with its power; or whether it has power, and no more
pub data CardView : Type 0 where
  TheCard : Machine → CardView
  ItsPower : Bool → CardView

-- What holds by what is known of the card: the first where the card itself is known, and the second where its power alone is.
abbrev pub Known : (Machine → Type 0) → (Bool → Type 0) → CardView → Type 0
Known OfCard OfPower (TheCard machine) = OfCard machine
Known OfCard OfPower (ItsPower on) = OfPower on

-- the same of the card before something and after it, of which as much is known after it as before
abbrev pub KnownAlike : (Machine → Machine → Type 0) → (Bool → Bool → Type 0) → CardView → CardView → Type 0
KnownAlike OfCards OfPowers (TheCard old) (TheCard new) = OfCards old new
KnownAlike OfCards OfPowers (ItsPower on) (ItsPower after) = OfPowers on after
KnownAlike OfCards OfPowers old new = ⊥

-- ---- what may be shown by the power

-- an answer that tells of a failing memory has no data
abbrev pub IsBare : TraceItem → Type 0
IsBare (item.Answer body status) = is_failure (item.Answer body status) ≡ true → body ≡ []
IsBare shown = ⊤

-- What may come of a command, by the power before it and after it: with power an answer, or that it was lost; and without, that there
-- was none.
abbrev pub IsReply : Bool → TraceItem → Bool → Type 0
IsReply on (item.Answer body status) after = (on ≡ true) × IsBare (item.Answer body status) × (after ≡ true)
IsReply on item.Cut after = (on ≡ true) × (after ≡ false)
IsReply on item.Off after = (on ≡ false) × (after ≡ false)
IsReply on shown after = ⊥

-- By the power before a step and after it: a command is shown with what came of it; a reset in one line, that it was done, or that power
-- was lost; and a plan not at all.
abbrev pub MayShow : Bool → Step → List TraceItem → Bool → Type 0
MayShow on (step.Apdu apdu) items after = (reply : TraceItem) × IsReply on reply after × (items ≡ item.Command apdu ∷ reply ∷ [])
MayShow on step.Reset items after = ((items ≡ item.Reset ∷ []) × (after ≡ true)) ⊎ ((items ≡ item.Cut ∷ []) × (after ≡ false))
MayShow on (step.Plan plan) items after = (items ≡ []) × (after ≡ on)

-- one thing is shown and then others, and between them there is power or not
pub record ThenShows (First : List TraceItem → Bool → Type 0) (Rest : Bool → List TraceItem → Type 0) (items : List TraceItem) : Type 0 where
  pub front : List TraceItem
  pub between : Bool
  pub back : List TraceItem
  pub first : First front between
  pub rest : Rest between back
  pub seen : items ≡ front ++ back

-- what may be shown of steps, one after the other, none of which ends the run
abbrev pub MayShowAll : Bool → List Step → List TraceItem → Bool → Type 0
MayShowAll on [] items after = (items ≡ []) × (after ≡ on)
MayShowAll on (step ∷ more) items after = ThenShows (MayShow on step) (λ between back. MayShowAll between more back after) items

-- a reset in which the memory failed
abbrev pub MayEnd : Step → List TraceItem → Type 0
MayEnd step.Reset items = items ≡ item.EepromFailed ∷ []
MayEnd step items = ⊥

-- ---- steps

-- a step that shows this, and the card before it and after it
abbrev pub StepShows : CardView → Step → List TraceItem → CardView → Type 0
StepShows old step items new = KnownAlike (λ card next. StepGives card step items next) (λ on after. MayShow on step items after) old new

-- a step that ends the run
abbrev pub LastShows : CardView → Step → List TraceItem → CardView → Type 0
LastShows old step items new = KnownAlike (λ card next. StepEnds card step items next) (λ on after. MayEnd step items) old new

-- steps, one after the other, none of which ended the run
abbrev pub StepsShow : CardView → List Step → List TraceItem → CardView → Type 0
StepsShow old steps items new = KnownAlike (λ card next. GoesOn card steps items next) (λ on after. MayShowAll on steps items after) old new

-- Where the card itself is known, these are its run, whose last step may have ended it. Where its power alone is known this says nothing.
abbrev pub IsRunOf : CardView → List Step → List TraceItem → CardView → Type 0
IsRunOf old steps items new = KnownAlike (λ card next. IsRun card steps items next) (λ on after. Unit {0}) old new

-- of the card itself a run; of its power, what it allows to be shown of steps, none of which ended the run
abbrev pub RunShows : CardView → List Step → List TraceItem → CardView → Type 0
RunShows old steps items new = KnownAlike (λ card next. IsRun card steps items next) (λ on after. MayShowAll on steps items after) old new
