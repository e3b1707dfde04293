-- What holds of each run of a card that begins with power.
use Rattle.std.specs.Prelude.{◌≡◌, true, List}
use Rattle.uicc_types.specs.Counts.{Meter}
use Rattle.uicc_types.specs.declared.plans.Plan.{Plan}
use Rattle.uicc_types.specs.declared.runs.Step.{Step}
use Rattle.uicc_types.specs.declared.runs.TraceItem.{TraceItem}
use Rattle.card_model.specs.Counts.{IsCounted}
use Rattle.card_model.specs.Runs.{IsRun}
use Rattle.card_model.specs.States.{Machine}
use Rattle.card_laws.specs.Faults.{CountsNoFault, ShowsNoCut, ShowsNoFailure, ShowsNoFault, ShowsNoOff}

-- Where no loss of power is seen, each command finds power, and the card has it at the end.
abbrev pub PowerLasts : Type 0
PowerLasts = (first now : Machine) (steps : List Step) (shown : List TraceItem) → IsRun first steps shown now → first.on ≡ true → ShowsNoCut shown
    → ShowsNoOff shown × (now.on ≡ true)

-- Where the device of the memory counts no fault, none is seen, and the card has power at the end.
abbrev pub UndisturbedRunsShowNoFault : Type 0
UndisturbedRunsShowNoFault = (first now : Machine) (steps : List Step) (shown : List TraceItem) (old new : Meter) (plans : List Plan)
    → IsRun first steps shown now → first.on ≡ true → IsCounted old new plans shown → CountsNoFault old new → ShowsNoFault shown × (now.on ≡ true)

-- Where neither a failure nor a loss of power is seen, the device of the memory counted no fault and no cut.
abbrev pub FaultsAreSeen : Type 0
FaultsAreSeen = (old new : Meter) (plans : List Plan) (shown : List TraceItem)
    → IsCounted old new plans shown → ShowsNoFailure shown → ShowsNoCut shown → (new.faults ≡ old.faults) × (new.cuts ≡ old.cuts)

-- What a card is asked, and what it holds, determine what is seen of it where nothing fails and no power is lost, and the card after that:
-- two such runs of the same steps from the same card are one.
abbrev pub RunsAreOne : Type 0
RunsAreOne = (first now left : Machine) (steps : List Step) (shown other : List TraceItem) → IsRun first steps shown now → IsRun first steps other left
    → ShowsNoFailure shown → ShowsNoCut shown → ShowsNoFailure other → ShowsNoCut other → (shown ≡ other) × (now ≡ left)
