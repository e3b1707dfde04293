-- How a command of the toolkit finds a card, and how it ends.
use Rattle.std.specs.Prelude.{◌≡◌, ◌≢◌, List, [], length, Option, Result, OnOk, OnErr}
use Rattle.uicc_types.specs.declared.answers.Answer.{Answer}
use Rattle.uicc_types.specs.declared.answers.TheConstants.StatusWord.{MEMORY_PROBLEM}
use Rattle.store_form.specs.declared.store.StoreFault.{StoreFault}
use Rattle.card_state.specs.declared.sizes.TheConstants.{ROW_COUNT}
use Rattle.card_state.specs.Memory.{IsMounted}
use Rattle.card_state.specs.States.{rows_of}
use Rattle.toolkit_model.specs.OrderlySessions.{IsInOrder}
use Rattle.event_dispatch.specs.Indexes.{StandsFor}
use Rattle.proactive_handler.specs.Steps.{Scene, toolkit}

-- A card between two commands, with these boxes: the memory is mounted, the index is that of its rows, there is a place
-- for the applet of each row, and the toolkit is in order.
pub record IsBetweenCommands {B : Type 0} (now : Scene) (cast : List (Option B)) : Type 0 where
  pub mounted : IsMounted now.memory
  pub indexed : StandsFor now.index (rows_of now.memory.table)
  pub shelves : length cast ≡ ROW_COUNT
  pub order : IsInOrder (toolkit now)

-- After Ok the toolkit is in order, and the answer isn't the one of a failing memory; after a fault there is no data.
pub record EndsToolkitWell {X : Type 0} (out : Answer) (new : Scene) (result : Result X StoreFault) : Type 0 where
  pub order : OnOk result (IsInOrder (toolkit new))
  pub usual : OnOk result (out.status.0 ≢ MEMORY_PROBLEM.0)
  pub empty : OnErr result (out.body ≡ [])
