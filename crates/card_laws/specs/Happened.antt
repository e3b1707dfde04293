-- What happens to a card in a run.
use Rattle.std.proofs.Common.{inl, inr}
use Rattle.std.specs.Prelude.{ℕ, Bool, true, false, List, [], ◌∷◌, ◌++◌, MatchBool}
use Rattle.uicc_types.specs.declared.runs.Step.{Step}
use Rattle.uicc_types.specs.declared.runs.Step.TheVariants as step
use Rattle.uicc_types.specs.declared.runs.TraceItem.{TraceItem}
use Rattle.toolkit_model.specs.Passing.{Passed}
use Rattle.card_model.specs.Instructions.{is_known}
use Rattle.card_model.specs.Runs.{Commands, MeetsNoPower, StepGives, IsRun}
use Rattle.card_model.specs.States.{Machine}
use Rattle.card_laws.specs.Moving.{Event, Answers, Breaks, Restarts, noted_of}

-- A command is answered, or the memory's failure or a loss of power stops it; without power nothing happens to the card.
abbrev pub command_events : (old : Machine) (apdu : List ℕ) (items : List TraceItem) (new : Machine) (on : Bool) → MatchBool on (Commands old apdu items new) (MeetsNoPower old apdu items new) → List Event
command_events old apdu items new true (inl exchanged) = Answers apdu ∷ []
command_events old apdu items new true (inr (inl fails)) = Breaks apdu fails.card ∷ []
command_events old apdu items new true (inr (inr lost)) = Breaks apdu lost.card ∷ []
command_events old apdu items new false none = []

-- the card is reset also where power is lost or the memory fails in the reset; of a plan the card knows nothing
abbrev pub step_events : (old : Machine) (step : Step) (items : List TraceItem) (new : Machine) → StepGives old step items new → List Event
step_events old (step.Apdu apdu) items new gives = command_events old apdu items new old.on gives
step_events old step.Reset items new gives = Restarts ∷ []
step_events old (step.Plan plan) items new gives = []

-- all that happens to the card in a run, in order; a step that ends the run is a reset
abbrev pub events_in : (old : Machine) (steps : List Step) (items : List TraceItem) (new : Machine) → IsRun old steps items new → List Event
events_in old [] items new rests = []
events_in old (step ∷ more) items new (inl goes_on) = step_events old step goes_on.front goes_on.middle goes_on.first ++ events_in goes_on.middle more goes_on.back new goes_on.rest
events_in old (step ∷ more) items new (inr ends) = Restarts ∷ []

-- what is noted of it
abbrev pub noted_in : (old : Machine) (steps : List Step) (items : List TraceItem) (new : Machine) → IsRun old steps items new → Passed
noted_in old steps items new run = noted_of is_known old.card (events_in old steps items new run)
