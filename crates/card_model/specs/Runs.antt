-- How a card moves, step by step, and what is seen of it.
use Rattle.std.specs.Prelude.{◌≡◌, ◌⊎◌, ◌&&◌, ℕ, if◌then◌else◌, List, [], ◌∷◌, ◌++◌, map, Contains, Option, None, is_some, is_none, MatchBool}
use Rattle.std.specs.List.{enumerate_from}
use Rattle.std.specs.Option.{option_or}
use Rattle.uicc_types.specs.Counts.{names_fault}
use Rattle.uicc_types.specs.declared.plans.Plan.{Plan}
use Rattle.uicc_types.specs.declared.plans.TheConstants.Plan.{NONE}
use Rattle.uicc_types.specs.declared.answers.TheConstants.StatusWord.{MEMORY_PROBLEM}
use Rattle.uicc_types.specs.declared.runs.Step.{Step}
use Rattle.uicc_types.specs.declared.runs.Step.TheVariants as step
use Rattle.uicc_types.specs.declared.runs.TraceItem.{TraceItem}
use Rattle.uicc_types.specs.declared.runs.TraceItem.TheVariants as item
use Rattle.card_state.specs.Persistent.{Registration, Persistent}
use Rattle.applet_trait.specs.Minds.{AppletState}
use Rattle.toolkit_model.specs.Registry.{row_on}
use Rattle.card_model.specs.States.{CardState, Machine, powered, unpowered, woken, restarted}
use Rattle.card_model.specs.Answers.{answer, passed}

-- ---- what a fault leaves

-- the box of an applet that is registered no more is dropped; any other stays
abbrev pub box_left : List Registration → List Registration → ℕ → Option AppletState → Option AppletState
box_left before after shelf box = if is_some (row_on before shelf) && is_none (row_on after shelf) then None else box

-- the boxes after a command that left these rows, each on its shelf
abbrev pub boxes_left : List Registration → List Registration → List (Option AppletState) → List (Option AppletState)
boxes_left before after boxes = map (λ box. box_left before after box.0 box.1) (enumerate_from 0 boxes)

-- What a card is after a fault in a command: it holds one of the states that the command passes, and is otherwise as a
-- reset leaves it.
pub record IsLeft (card : CardState) (states : List Persistent) (left : CardState) : Type 0 where
  pub persistent : Persistent
  pub passed : Contains states persistent
  pub woke : left ≡ woken persistent (boxes_left card.persistent.rows persistent.rows card.boxes)

-- ---- a command

-- the card answers
pub record Exchanges (old : Machine) (apdu : List ℕ) (items : List TraceItem) (new : Machine) : Type 0 where
  pub seen : items ≡ item.Command apdu ∷ item.Answer (answer old.card apdu).body (answer old.card apdu).status ∷ []
  pub moved : new ≡ powered (answer old.card apdu).state

-- the memory fails, which the card answers without data
pub record MemoryFails (old : Machine) (apdu : List ℕ) (items : List TraceItem) (new : Machine) : Type 0 where
  pub seen : items ≡ item.Command apdu ∷ item.Answer [] MEMORY_PROBLEM ∷ []
  pub card : CardState
  pub left : IsLeft old.card (passed old.card apdu) card
  pub moved : new ≡ powered card

-- power is lost in the command
pub record PowerIsLost (old : Machine) (apdu : List ℕ) (items : List TraceItem) (new : Machine) : Type 0 where
  pub seen : items ≡ item.Command apdu ∷ item.Cut ∷ []
  pub card : CardState
  pub left : IsLeft old.card (passed old.card apdu) card
  pub moved : new ≡ unpowered card

-- a command to a card that has power: the card answers, its memory fails, or power is lost
abbrev pub Commands : Machine → List ℕ → List TraceItem → Machine → Type 0
Commands old apdu items new = Exchanges old apdu items new ⊎ MemoryFails old apdu items new ⊎ PowerIsLost old apdu items new

-- there is no power, and nothing changes
pub record MeetsNoPower (old : Machine) (apdu : List ℕ) (items : List TraceItem) (new : Machine) : Type 0 where
  pub seen : items ≡ item.Command apdu ∷ item.Off ∷ []
  pub stays : new ≡ old

-- ---- a reset

-- the card is as a reset leaves it, with power
pub record Restarts (old : Machine) (items : List TraceItem) (new : Machine) : Type 0 where
  pub seen : items ≡ item.Reset ∷ []
  pub moved : new ≡ powered (restarted old.card)

-- power is lost in the reset
pub record RestartIsCut (old : Machine) (items : List TraceItem) (new : Machine) : Type 0 where
  pub seen : items ≡ item.Cut ∷ []
  pub moved : new ≡ unpowered (restarted old.card)

-- the memory fails in the reset, which ends the run
pub record RestartFails (old : Machine) (items : List TraceItem) (new : Machine) : Type 0 where
  pub seen : items ≡ item.EepromFailed ∷ []
  pub moved : new ≡ powered (restarted old.card)

-- ---- a run

-- faults are planned, of which the card knows nothing
pub record Waits (old : Machine) (items : List TraceItem) (new : Machine) : Type 0 where
  pub seen : items ≡ []
  pub stays : new ≡ old

-- what a step shows, and the card after it
abbrev pub StepGives : Machine → Step → List TraceItem → Machine → Type 0
StepGives old (step.Apdu apdu) items new = MatchBool old.on (Commands old apdu items new) (MeetsNoPower old apdu items new)
StepGives old step.Reset items new = Restarts old items new ⊎ RestartIsCut old items new
StepGives old (step.Plan plan) items new = Waits old items new

-- a step that ends the run
abbrev pub StepEnds : Machine → Step → List TraceItem → Machine → Type 0
StepEnds old (step.Apdu apdu) items new = ⊥
StepEnds old step.Reset items new = RestartFails old items new
StepEnds old (step.Plan plan) items new = ⊥

-- one thing is seen and then others, and between them the card stands somewhere
pub record Then (First : List TraceItem → Machine → Type 0) (Rest : Machine → List TraceItem → Type 0) (items : List TraceItem) : Type 0 where
  pub front : List TraceItem
  pub middle : Machine
  pub back : List TraceItem
  pub first : First front middle
  pub rest : Rest middle back
  pub seen : items ≡ front ++ back

-- What is seen of steps, one after the other, and the card after them. Only the last may end the run.
abbrev pub IsRun : Machine → List Step → List TraceItem → Machine → Type 0
IsRun old [] items new = Waits old items new
IsRun old (step ∷ more) items new =
    Then (StepGives old step) (λ middle back. IsRun middle more back new) items ⊎ ((more ≡ []) × StepEnds old step items new)

-- ---- planned faults

-- a later plan of one kind takes the place of an earlier one
abbrev pub plans_joined : Plan → Plan → Plan
plans_joined waiting plan = record {
  cut = option_or plan.cut waiting.cut;
  fail = option_or plan.fail waiting.fail;
  read_fail = option_or plan.read_fail waiting.read_fail;
}

-- a plan that waits is set before the next command or reset, if it names a fault
abbrev pub due : Plan → List Plan
due waiting = if names_fault waiting then waiting ∷ [] else []

-- the plans that the steps set, where this one waits before them: before each command and each reset all that came up to it, joined to one
abbrev pub armed_after : Plan → List Step → List Plan
armed_after waiting [] = []
armed_after waiting (step.Plan plan ∷ more) = armed_after (plans_joined waiting plan) more
armed_after waiting (step.Apdu apdu ∷ more) = due waiting ++ armed_after NONE more
armed_after waiting (step.Reset ∷ more) = due waiting ++ armed_after NONE more

-- the plan that waits after some steps
abbrev pub waiting_after : Plan → List Step → Plan
waiting_after waiting [] = waiting
waiting_after waiting (step.Plan plan ∷ more) = waiting_after (plans_joined waiting plan) more
waiting_after waiting (step.Apdu apdu ∷ more) = waiting_after NONE more
waiting_after waiting (step.Reset ∷ more) = waiting_after NONE more

-- the plans that the steps of a run set, in order
abbrev pub plan_given : List Step → List Plan
plan_given steps = armed_after NONE steps
