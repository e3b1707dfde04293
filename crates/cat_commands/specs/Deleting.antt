-- The applet of a shelf is deleted.
use Rattle.std.specs.Prelude.{◌≡◌, ◌≢◌, ◌<◌, ℕ, true, List, All, slice_set, Option, None, option_map, Result, OnOk, OnErr, IfOk}
use Rattle.store_form.specs.declared.store.StoreFault.{StoreFault}
use Rattle.card_state.specs.declared.entries.Loaded.{Loaded}
use Rattle.card_state.specs.declared.sizes.TheConstants.{ROW_COUNT}
use Rattle.card_state.specs.Memory.{Keeps}
use Rattle.card_state.specs.Persistent.{Registration}
use Rattle.card_state.specs.Standing.{Agrees}
use Rattle.card_state.specs.States.{rows_of}
use Rattle.card_commits.specs.Entries.{HasRowOn}
use Rattle.applet_trait.specs.Minds.{AppletState, minds_of}
use Rattle.toolkit_model.specs.Driving.{is_idle}
use Rattle.toolkit_model.specs.Orderly.{asks}
use Rattle.toolkit_model.specs.Running.{mind_on, with_mind}
use Rattle.event_dispatch.specs.Indexes.{StandsFor}
use Rattle.proactive_handler.specs.Boxes.{kinds_of, IsSameBox}
use Rattle.proactive_handler.specs.Serving.{IsSessionServed}
use Rattle.proactive_handler.specs.Steps.{Scene}

-- the applet on this shelf is registered, and waits for no answer
pub record MayGo (now : Scene) (shelf : ℕ) : Type 0 where
  pub low : shelf < ROW_COUNT
  pub row : HasRowOn now.memory.table shelf
  pub idle : is_idle (asks now.session) shelf ≡ true

-- no row is on this shelf
abbrev pub HasNoRow : List Registration → ℕ → Type 0
HasNoRow rows shelf = All (λ row. row.shelf ≢ shelf) rows

-- The box of this shelf is gone, and its row; on each other shelf an applet of the same kind stands.
pub record HasLost (shelf : ℕ) (old new : Scene) : Type 0 where
  pub boxes : kinds_of new.minds ≡ slice_set (kinds_of old.minds) shelf None
  pub row : HasNoRow (rows_of new.memory.table) shelf

-- on each shelf that had no row and has none, the applet is as it was
abbrev pub LeavesUnregistered : Loaded → Loaded → List (Option AppletState) → List (Option AppletState) → Type 0
LeavesUnregistered before after old new =
    (shelf : ℕ) → (HasRowOn before shelf → ⊥) → (HasRowOn after shelf → ⊥) → mind_on new shelf ≡ mind_on old shelf

-- The box of a shelf is taken out and handed over; after a fault all boxes are there.
pub record TakesBox {B : Type 0} (mind : B → AppletState) (shelf : ℕ) (old new : List (Option B)) (result : Result (Option B) StoreFault) : Type 0 where
  pub taken : IfOk result (λ applet. option_map mind applet ≡ mind_on (minds_of mind old) shelf)
  pub gone : OnOk result (minds_of mind new ≡ with_mind (minds_of mind old) shelf None)
  pub kept : OnErr result (new ≡ old)
  pub others : (other : ℕ) → other ≢ shelf → IsSameBox other old new

-- What is kept of a scene in which the applet of this shelf is deleted, also where a fault stops it.
pub record KeepsBesides {X : Type 0} (shelf : ℕ) (old new : Scene) (result : Result X StoreFault) : Type 0 where
  -- after a fault an applet of the same kind stands on each shelf
  pub kinds : OnErr result (kinds_of new.minds ≡ kinds_of old.minds)
  -- where no row was and none is, the applet is as it was
  pub others : LeavesUnregistered old.memory.table new.memory.table old.minds new.minds
  -- after Ok the applets can run again
  pub served : OnOk result (IsSessionServed new.memory.table new.session)
  -- who was registered still is, but for this one
  pub rows_stay : (other : ℕ) → other ≢ shelf → HasRowOn old.memory.table other
      → HasRowOn new.memory.table other
  -- after Ok the index is that of the rows
  pub indexed : OnOk result (StandsFor new.index (rows_of new.memory.table))
  -- the rows alone change in the table
  pub table : new.memory.table ≡ record old.memory.table { rows = new.memory.table.rows }
  -- after a fault the table has its form
  pub kept : OnErr result (Agrees new.memory.mark None new.memory.table)
  pub keeps : Keeps old.memory new.memory result
