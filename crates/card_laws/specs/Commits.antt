-- What a run of a card commits.
use Rattle.std.proofs.Common.{inl, inr}
use Rattle.std.specs.Prelude.{ℕ, Bool, true, false, List, [], ◌∷◌, ◌++◌, take, MatchBool}
use Rattle.uicc_types.specs.declared.runs.Step.{Step}
use Rattle.uicc_types.specs.declared.runs.Step.TheVariants as step
use Rattle.uicc_types.specs.declared.runs.TraceItem.{TraceItem}
use Rattle.card_state.specs.Persistent.{Persistent}
use Rattle.card_model.specs.Answers.{answer, passed}
use Rattle.card_model.specs.Runs.{IsLeft, Commands, MeetsNoPower, StepGives, IsRun}
use Rattle.card_model.specs.States.{CardState, Machine}

-- those of the command's commits that came before the fault: the card is left with the state that the last of them made, or else
-- with the one from before the command
abbrev pub commits_until : (card : CardState) (apdu : List ℕ) (left : CardState) → IsLeft card (passed card apdu) left → List Persistent
commits_until card apdu left is = take is.passed.0 (answer card apdu).commits

-- the states that a command of a run commits; none where there is no power
abbrev pub command_commits : (old : Machine) (apdu : List ℕ) (items : List TraceItem) (new : Machine) (on : Bool) → MatchBool on (Commands old apdu items new) (MeetsNoPower old apdu items new) → List Persistent
command_commits old apdu items new true (inl exchanged) = (answer old.card apdu).commits
command_commits old apdu items new true (inr (inl fails)) = commits_until old.card apdu fails.card fails.left
command_commits old apdu items new true (inr (inr lost)) = commits_until old.card apdu lost.card lost.left
command_commits old apdu items new false none = []

-- a reset and a plan commit nothing
abbrev pub step_commits : (old : Machine) (step : Step) (items : List TraceItem) (new : Machine) → StepGives old step items new → List Persistent
step_commits old (step.Apdu apdu) items new gives = command_commits old apdu items new old.on gives
step_commits old step.Reset items new gives = []
step_commits old (step.Plan plan) items new gives = []

-- what is held for good after each commit of a run, in order
abbrev pub commits_in : (old : Machine) (steps : List Step) (items : List TraceItem) (new : Machine) → IsRun old steps items new → List Persistent
commits_in old [] items new rests = []
commits_in old (step ∷ more) items new (inl goes_on) = step_commits old step goes_on.front goes_on.middle goes_on.first ++ commits_in goes_on.middle more goes_on.back new goes_on.rest
commits_in old (step ∷ more) items new (inr ends) = []
