-- What holds of the toolkit in every run of a card.
use Rattle.std.specs.Prelude.{◌≡◌, ℕ, true, List, ◌∷◌, ◌++◌, All, Some, ⊤}
use Rattle.uicc_types.specs.Told.{AreBytes}
use Rattle.uicc_types.specs.declared.runs.Step.{Step}
use Rattle.uicc_types.specs.declared.runs.Step.TheVariants as step
use Rattle.uicc_types.specs.declared.runs.TraceItem.{TraceItem}
use Rattle.toolkit_model.specs.Commands.{unanswered}
use Rattle.toolkit_model.specs.Orderly.{asks}
use Rattle.toolkit_model.specs.Passing.{Passed}
use Rattle.toolkit_model.specs.Steps.{ToolkitInput}
use Rattle.toolkit_model.specs.Awaiting.{awaited, ReachesWhoAsked}
use Rattle.toolkit_model.specs.Fetching.{OneAtATime, AnsweredBetween}
use Rattle.toolkit_model.specs.Owing.{LosesNothing}
use Rattle.card_model.specs.Instructions.{is_known, has_toolkit}
use Rattle.card_model.specs.Runs.{IsRun}
use Rattle.card_model.specs.States.{Machine, IsGood}
use Rattle.card_model.specs.Toolkit.{toolkit_of}
use Rattle.card_laws.specs.Happened.{events_in, noted_in}
use Rattle.card_laws.specs.ToolkitLaws.{RunsTargets}
use Rattle.card_laws.specs.Moving.{HasOrder, taken, Event, Answers, AllCanHappen, card_after_all}

-- what happens in a run can happen, one thing after the other, and leads to the card after the run
abbrev pub RunsAreEvents : Type 0
RunsAreEvents =
    (old new : Machine) (steps : List Step) (items : List TraceItem) (run : IsRun old steps items new)
    → AllCanHappen is_known old.card (events_in old steps items new run) × (card_after_all is_known old.card (events_in old steps items new run) ≡ new.card)

-- ---- good cards

-- a command is a list of bytes
abbrev pub HasBytes : Step → Type 0
HasBytes (step.Apdu apdu) = AreBytes apdu
HasBytes _ = ⊤

-- a good card is good after each run
abbrev pub RunsLeaveGoodCards : Type 0
RunsLeaveGoodCards = (old new : Machine) (steps : List Step) (items : List TraceItem) → IsGood old.card → All HasBytes steps → IsRun old steps items new → IsGood new.card

-- ---- the laws of the toolkit

-- Of events that lead from one card to another, and of what is noted of them: a command is fetched only where none is fetched and
-- not answered, so that between two of them a response is accepted or all applets wake; after a command of an applet was admitted,
-- its next turn is told of the answer that was accepted to it, unless it woke; what envelopes gave an applet, it is told of in this
-- order, or it is late for it; and at each command that is answered idle applets run in the order of the targets.
pub record KeepsToolkitLaws (old new : Machine) (events : List Event) (noted : Passed) : Type 0 where
  pub one : OneAtATime (unanswered old.card.session) noted.log
  pub between : AnsweredBetween noted.log
  pub reach : (shelf : ℕ) → ReachesWhoAsked shelf (awaited shelf (asks old.card.session)) noted.log (awaited shelf (asks new.card.session))
  pub lost : (shelf : ℕ) → LosesNothing shelf (toolkit_of old.card) noted
  pub order : (early late : List Event) (bytes : List ℕ) (command : ToolkitInput) → events ≡ early ++ (Answers bytes ∷ late)
      → taken is_known (card_after_all is_known old.card early) bytes ≡ Some command → RunsTargets command (card_after_all is_known old.card early)
  pub toolkit : toolkit_of new.card ≡ noted.state
  pub in_order : HasOrder new.card

-- in a run of a card that runs applets and whose toolkit is in order, as that of a good card is
abbrev pub ToolkitLawsHoldOfRuns : Type 0
ToolkitLawsHoldOfRuns =
    (old new : Machine) (steps : List Step) (items : List TraceItem) (run : IsRun old steps items new) → has_toolkit is_known ≡ true → HasOrder old.card
    → KeepsToolkitLaws old new (events_in old steps items new run) (noted_in old steps items new run)
