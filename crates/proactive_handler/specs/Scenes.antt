-- What a step of the toolkit needs of a scene, and what it keeps of it.
use Rattle.std.specs.Prelude.{◌≡◌, ℕ, List, length, Option, None, Result, OnOk, OnErr}
use Rattle.store_form.specs.declared.store.StoreFault.{StoreFault}
use Rattle.card_state.specs.declared.sizes.TheConstants.{ROW_COUNT}
use Rattle.card_state.specs.Memory.{IsMounted, Keeps}
use Rattle.card_state.specs.Standing.{Agrees}
use Rattle.card_state.specs.States.{rows_of}
use Rattle.card_commits.specs.Entries.{HasRowOn}
use Rattle.event_dispatch.specs.Indexes.{StandsFor}
use Rattle.proactive_handler.specs.Boxes.{kinds_of, LeavesOthers}
use Rattle.proactive_handler.specs.Serving.{IsSessionServed}
use Rattle.proactive_handler.specs.Steps.{Scene}

-- The applets in these boxes can run: the memory is mounted, the index is that of its rows, there is a place for the applet of each
-- row, and who asks is registered.
pub record IsInService {B : Type 0} (now : Scene) (cast : List (Option B)) : Type 0 where
  pub mounted : IsMounted now.memory
  pub indexed : StandsFor now.index (rows_of now.memory.table)
  pub shelves : length cast ≡ ROW_COUNT
  pub served : IsSessionServed now.memory.table now.session

-- What each step keeps of a scene, also where a fault stops it.
pub record KeepsScene {X : Type 0} (old new : Scene) (result : Result X StoreFault) : Type 0 where
  -- on each shelf an applet of the same kind stands, or none as before
  pub kinds : kinds_of new.minds ≡ kinds_of old.minds
  -- where no row is, the applet is as it was
  pub others : LeavesOthers new.memory.table old.minds new.minds
  -- after Ok the applets can run again
  pub served : OnOk result (IsSessionServed new.memory.table new.session)
  -- who was registered still is
  pub rows_stay : (shelf : ℕ) → HasRowOn old.memory.table shelf → HasRowOn new.memory.table shelf
  -- after Ok the index is that of the rows
  pub indexed : OnOk result (StandsFor new.index (rows_of new.memory.table))
  -- the rows alone change in the table
  pub table : new.memory.table ≡ record old.memory.table { rows = new.memory.table.rows }
  -- after a fault the table has its form
  pub kept : OnErr result (Agrees new.memory.mark None new.memory.table)
  pub keeps : Keeps old.memory new.memory result
