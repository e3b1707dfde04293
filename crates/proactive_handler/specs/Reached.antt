-- Whose boxes a step leaves as they were, and what of it came to pass before a fault.
use Rattle.std.specs.Prelude.{◌≢◌, Bool, All, Option, Result, Ok, Err, IfOk, ◌≡◌, ℕ, List, ◌∷◌, ◌++◌, length}
use Rattle.uicc_types.specs.Counts.{raised_by}
use Rattle.store_form.specs.declared.store.StoreFault.{StoreFault}
use Rattle.card_state.specs.Changes.{Change}
use Rattle.card_state.specs.Persistent.{Registration}
use Rattle.toolkit_model.specs.Commands.{last_answer}
use Rattle.toolkit_model.specs.Passing.{ToolkitState, Happening, Committed, Passed, turns, passed_rows}
use Rattle.proactive_handler.specs.Boxes.{IsSameBox}
use Rattle.proactive_handler.specs.Steps.{Scene, toolkit, Moves}

-- no turn of the applet on this shelf is noted
abbrev pub HasNoTurn : ℕ → List Happening → Type 0
HasNoTurn shelf log = All (λ turn. turn.shelf ≢ shelf) (turns log)

-- A fault stopped one of the commits that are noted: those before it are counted, and no other, and the box of an applet that took no
-- turn before it is as it was.
pub record StopsBehind {B : Type 0} (log : List Happening) (old new : Scene) (cast left : List (Option B)) : Type 0 where
  pub reached : List Happening
  pub change : Change
  pub rows : List Registration
  pub rest : List Happening
  pub split : log ≡ reached ++ Committed change rows ∷ rest
  pub commits : new.memory.commits ≡ raised_by (length (passed_rows reached)) old.memory.commits
  pub untold : (shelf : ℕ) → HasNoTurn shelf reached → IsSameBox shelf cast left

-- The boxes of applets that took no turn are as they were, with a fault of those that took none before it.
abbrev pub TurnsTo : {X B : Type 0} → Passed → Scene → Scene → List (Option B) → List (Option B)
    → Result X StoreFault → Type 0
TurnsTo passed old new cast left (Ok result) = (shelf : ℕ) → HasNoTurn shelf passed.log → IsSameBox shelf cast left
TurnsTo passed old new cast left (Err fault) = StopsBehind passed.log old new cast left

-- the same, of a step from the toolkit of the scene
abbrev pub TurnsOnly : {X B : Type 0} → (ToolkitState → Passed) → Scene → Scene → List (Option B) → List (Option B)
    → Result X StoreFault → Type 0
TurnsOnly step old new cast left result = TurnsTo (step (toolkit old)) old new cast left result

-- The applets are told something by this step. After Ok the last answer to call control is known that they gave, if they gave one.
pub record Tells {B : Type 0} (step : ToolkitState → Passed) (old new : Scene) (cast left : List (Option B))
    (result : Result (Option Bool) StoreFault) : Type 0 where
  pub moves : Moves step old new result
  pub answer : IfOk result (λ answer. answer ≡ last_answer (step (toolkit old)).log)
  pub turns : TurnsOnly step old new cast left result
