-- What a command has done to a card, and what stands where the memory failed inside it.
use Rattle.std.specs.Prelude.{◌≡◌, ◌⊎◌, ◌+◌, ◌≤◌, ℕ, List, [], ◌∷◌, length, take, map, Contains, Option, Some, option_map, IfSome, IsSomeAnd, Result, Ok, Err}
use Rattle.uicc_types.specs.Counts.{raised_by}
use Rattle.uicc_types.specs.declared.answers.Answer.{Answer}
use Rattle.card_state.specs.Changes.{Change}
use Rattle.card_state.specs.Persistent.{Pin, Persistent}
use Rattle.card_state.specs.Memory.{Memory, held}
use Rattle.access_rules.specs.declared.rules.Verified.{Verified}
use Rattle.file_model.specs.declared.selections.Selection.{Selection}
use Rattle.file_model.specs.Outcomes.{FileOutcome, PinOutcome, last_of}
use Rattle.card_commits.specs.Writing.{all_written}

-- One of the states of a command stands: the one before it, or one that it passed.
abbrev pub PassesOne : Option Persistent → Option Persistent → (Persistent → List Persistent) → Type 0
PassesOne before after passed = IfSome before (λ state. IsSomeAnd after (Contains (state ∷ passed state)))

-- no more than so many commits were done, and each of those that were is counted
abbrev pub CommitsAtMost : ℕ → ℕ → ℕ → Type 0
CommitsAtMost times before now = (done : ℕ) × ((done ≤ times) × (now ≡ raised_by done before))

-- ---- the bytes

-- Some changes, one after the other, which a fault stopped: so many of them, be they all, are counted, and the bytes are those after these,
-- or after one more.
pub record StopsAmong (changes : List Change) (old new : Memory) : Type 0 where
  pub done : ℕ
  pub few : done ≤ length changes
  pub commits : new.commits ≡ raised_by done old.commits
  pub told : (new.told ≡ option_map (all_written (take done changes)) old.told) ⊎ (new.told ≡ option_map (all_written (take (done + 1) changes)) old.told)

-- What a command has written over a store that tells its bytes: after Ok what its changes write, in order, and nothing else; where a fault
-- stopped it, what some of them write (`StopsAmong`).
abbrev pub WritesAll : {X E : Type 0} → Result X E → Memory → Memory → (Persistent → List Change) → Type 0
WritesAll (Ok done) old new changes = IfSome (held old) (λ state. new.told ≡ option_map (all_written (changes state)) old.told)
WritesAll (Err fault) old new changes = IfSome (held old) (λ state. StopsAmong (changes state) old new)

-- ---- commands on files

-- the answer, the selection and the state are those of the outcome, and there was one commit for each state that it passes
pub record IsOutcome (state : Persistent) (outcome : FileOutcome) (answer : Answer) (selection : Selection) (old new : Memory) : Type 0 where
  pub body : answer.body ≡ outcome.body
  pub status : answer.status ≡ outcome.status
  pub selected : selection ≡ outcome.selection
  pub state_is : held new ≡ Some (last_of state outcome.passed)
  pub commits : new.commits ≡ raised_by (length outcome.passed) old.commits

-- A fault stopped it. The state before it or one that it passes stands. No commit is counted: it has one at most, and the fault
-- was in that or before it.
pub record IsStopped (old new : Memory) (passed : Persistent → List Persistent) : Type 0 where
  pub passes : PassesOne (held old) (held new) passed
  pub commits : new.commits ≡ old.commits

-- A command on files over a store that tells its bytes: carried out, or stopped by a fault.
abbrev pub Performs : {E : Type 0} → Result Unit E → Memory → Memory → Answer → Selection → (Persistent → FileOutcome) → Type 0
Performs (Ok done) old new answer selection outcome = IfSome (held old) (λ state. IsOutcome state (outcome state) answer selection old new)
Performs (Err fault) old new answer selection outcome = IsStopped old new (λ state. (outcome state).passed)

-- a command that passes no state leaves the bytes as they were, also where it is stopped
abbrev pub StaysStill : Memory → Memory → (Persistent → List Persistent) → Type 0
StaysStill old new passed = IfSome (held old) (λ state. passed state ≡ [] → new.told ≡ old.told)

-- ---- PIN commands

-- the states with these PINs
abbrev pub with_each : Persistent → List (List Pin) → List Persistent
with_each state passed = map (λ pins. record state { pins = pins }) passed

-- a PIN command came to this: its status without data, the marks, and the PINs of the state after its last commit
pub record IsPinOutcome (state : Persistent) (outcome : PinOutcome) (answer : Answer) (verified : Verified) (old new : Memory) : Type 0 where
  pub body : answer.body ≡ []
  pub status : answer.status ≡ outcome.status
  pub verified_is : verified ≡ outcome.verified
  pub state_is : held new ≡ Some (last_of state (with_each state outcome.passed))
  pub commits : new.commits ≡ raised_by (length outcome.passed) old.commits

-- A fault stopped it. The state before it or one that it passes stands, and no more commits are counted than it has.
pub record IsPinStopped (old new : Memory) (outcome : Persistent → PinOutcome) : Type 0 where
  pub passes : PassesOne (held old) (held new) (λ state. with_each state (outcome state).passed)
  pub commits : IfSome (held old) (λ state. CommitsAtMost (length (outcome state).passed) old.commits new.commits)

-- what a PIN command has done after Ok, or where a fault stopped it
abbrev pub PerformsPin : {E : Type 0} → Result Unit E → Memory → Memory → Answer → Verified → (Persistent → PinOutcome) → Type 0
PerformsPin (Ok done) old new answer verified outcome = IfSome (held old) (λ state. IsPinOutcome state (outcome state) answer verified old new)
PerformsPin (Err fault) old new answer verified outcome = IsPinStopped old new outcome
