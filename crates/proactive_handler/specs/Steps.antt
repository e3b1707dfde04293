-- A step of the toolkit over a card, and where a fault stops it.
use Rattle.std.specs.Prelude.{◌≡◌, ℕ, List, Option, Some, option_map, Result, Ok, Err}
use Rattle.std.specs.List.{last_or}
use Rattle.store_form.specs.declared.store.StoreFault.{StoreFault}
use Rattle.card_state.specs.Memory.{Memory, held}
use Rattle.card_state.specs.States.{rows_of}
use Rattle.applet_trait.specs.Minds.{AppletState}
use Rattle.toolkit_model.specs.Sessions.{SessionState}
use Rattle.toolkit_model.specs.Passing.{ToolkitState, Passed, passed_rows}
use Rattle.proactive_handler.specs.Acts.{with_these_rows}
use Rattle.proactive_handler.specs.Counting.{Counts}
use Rattle.proactive_handler.specs.Written.{IsWritten}
use Rattle.proactive_handler.specs.Runs.{StopsIn}

-- What a step works on: the memory of a card, the index of its rows by events, the session, and the minds of the boxes.
pub record Scene : Type 0 where
  pub memory : Memory
  pub index : List (List ℕ)
  pub session : SessionState
  pub minds : List (Option AppletState)

-- a card's memory, the index of its rows, its session and the minds in its boxes
abbrev pub scene : Memory → List (List ℕ) → SessionState → List (Option AppletState) → Scene
scene memory index session minds = record { memory = memory; index = index; session = session; minds = minds }

-- its toolkit: the rows of its table, its session, and the minds of its boxes
abbrev pub toolkit : Scene → ToolkitState
toolkit now = record { rows = rows_of now.memory.table; session = now.session; minds = now.minds }

-- The step is done: the toolkit is as it is defined, the store stands for the state with its rows, and these are the last that were
-- committed. There were as many commits as are noted, and what they changed was written.
pub record IsDone (passed : Passed) (old new : Scene) : Type 0 where
  pub state_is : toolkit new ≡ passed.state
  pub stands : held new.memory ≡ option_map (with_these_rows passed.state.rows) (held old.memory)
  pub last_is : last_or (Some (rows_of old.memory.table)) (passed_rows passed.log) ≡ Some passed.state.rows
  pub counts : Counts (passed_rows passed.log) old.memory new.memory
  pub writes : IsWritten passed.log old.memory new.memory

-- it is done, or a fault stopped one of its commits
abbrev pub MovesTo : {X : Type 0} → Passed → Scene → Scene → Result X StoreFault → Type 0
MovesTo passed old new (Ok result) = IsDone passed old new
MovesTo passed old new (Err fault) = StopsIn passed.log old.memory new.memory

-- the same, of a step from the toolkit of the scene
abbrev pub Moves : {X : Type 0} → (ToolkitState → Passed) → Scene → Scene → Result X StoreFault → Type 0
Moves step old new result = MovesTo (step (toolkit old)) old new result
