-- What a card of the code stands for, and what always holds of it.
use Rattle.std.specs.Prelude.{◌≡◌, ℕ, Bool, true, false, if◌then◌else◌, List, length, slice_set, All, Option, Some, None, is_none, option_map, IfSome, Result, OnOk, OnErr}
use Rattle.uicc_types.specs.declared.identifiers.Shelf.{Shelf}
use Rattle.store_form.specs.declared.store.Store.{Ghosts as StoreWords}
use Rattle.store_form.specs.declared.store.StoreFault.{StoreFault}
use Rattle.card_state.specs.declared.entries.Loaded.{Loaded}
use Rattle.card_state.specs.Persistent.{Registration, Persistent}
use Rattle.card_state.specs.Places.{memory_size}
use Rattle.card_state.specs.Standing.{standing, Agrees}
use Rattle.card_state.specs.Memory.{Memory, IsMounted}
use Rattle.card_state.specs.States.{rows_of}
use Rattle.file_model.specs.Files.{descriptors_of}
use Rattle.file_model.specs.LawfulTrees.{AreSelected}
use Rattle.applet_trait.specs.declared.applets.Applet.{Ghosts as AppletWords}
use Rattle.applet_trait.specs.Minds.{AppletState, minds_of}
use Rattle.toolkit_model.specs.Sessions.{SessionState}
use Rattle.toolkit_model.specs.Passing.{ToolkitState}
use Rattle.toolkit_model.specs.OrderlySessions.{IsInOrder}
use Rattle.toolkit_model.specs.Registry.{row_on}
use Rattle.event_dispatch.specs.Indexes.{StandsFor}
use Rattle.card_model.specs.States.{CardState, HasBox, IsGood, woken}
use Rattle.card_core.specs.Starts.{HoldsCard}
use Rattle.card_core.specs.Parts.{CardParts}
use Rattle.card_core.specs.declared.cards.CardOver.{CardOver}

-- the parts of a card over any store, with boxes of any applets
abbrev pub parts_of : {S B : Type 0} → StoreWords S → AppletWords B → CardOver S B → CardParts
parts_of store applet card = record {
  recovered = store.recovered card.store;
  byte_count = store.byte_count card.store;
  store_mark = store.store_mark card.store;
  told = store.stable card.store;
  meter = store.meter card.store;
  commits = store.commits card.store;
  reads = store.reads card.store;
  recoveries = store.recoveries card.store;
  table = card.loaded.value;
  index = card.index;
  channels = card.channels;
  verified = card.verified;
  session = card.session;
  boxes = minds_of applet.mind card.boxes.items;
  leaving = card.leaving;
  is_on = card.is_on;
  is_due = card.is_due;
}

-- its memory: the store, and the table of its entries
abbrev pub memory_of : CardParts → Memory
memory_of parts = record {
  recovered = parts.recovered;
  size = parts.byte_count;
  mark = parts.store_mark;
  told = parts.told;
  meter = parts.meter;
  commits = parts.commits;
  reads = parts.reads;
  recoveries = parts.recoveries;
  table = parts.table;
}

-- ---- what it stands for

-- what its store stands for, where that tells its bytes
abbrev pub held_by : CardParts → Option Persistent
held_by parts = standing parts.store_mark parts.told

-- the boxes without that of an applet that leaves, if it is registered no more
abbrev pub boxes_kept : Option Shelf → List Registration → List (Option AppletState) → List (Option AppletState)
boxes_kept None rows boxes = boxes
boxes_kept (Some shelf) rows boxes = if is_none (row_on rows shelf.0) then slice_set boxes shelf.0 None else boxes

-- a card that holds this for good: where a recovery is due it is as a reset leaves it, though the boxes are not woken yet
abbrev pub card_with : Bool → CardParts → Persistent → CardState
card_with true parts persistent = woken persistent (boxes_kept parts.leaving persistent.rows parts.boxes)
card_with false parts persistent = record {
  persistent = persistent;
  channels = parts.channels;
  verified = parts.verified;
  session = parts.session;
  boxes = parts.boxes;
}

-- the card, where its store tells its bytes
unfoldable pub card_of : CardParts → Option CardState
card_of parts = option_map (card_with parts.is_due parts) (held_by parts)

-- the card that it is if a recovery is due
unfoldable pub card_due : CardParts → Option CardState
card_due parts = option_map (card_with true parts) (held_by parts)

-- ---- what always holds

-- The store has the size of a card's memory. A store that tells its bytes holds a card; of one that doesn't the table is that of
-- some card, each of whose applets has its box.
pub record IsSet (parts : CardParts) : Type 0 where
  pub size : parts.byte_count ≡ memory_size
  pub shelves : length parts.boxes ≡ 32
  pub card : HoldsCard parts.store_mark parts.told
  pub kept : parts.told ≡ None → Agrees parts.store_mark None parts.table
  pub boxes : parts.told ≡ None → All (HasBox parts.boxes) (rows_of parts.table)

-- the rows of the table, the session, and the minds in the boxes
abbrev pub toolkit_over : Loaded → SessionState → List (Option AppletState) → ToolkitState
toolkit_over table session boxes = record { rows = rows_of table; session = session; minds = boxes }

-- the index has the rows of the table under their events, and the toolkit is in order
pub record RunsToolkit (table : Loaded) (index : List (List ℕ)) (session : SessionState) (boxes : List (Option AppletState)) : Type 0 where
  pub indexed : StandsFor index (rows_of table)
  pub order : IsInOrder (toolkit_over table session boxes)

-- no recovery is due: the table is that of what the store holds, what is selected is there, the toolkit can go on, and no applet
-- leaves
pub record IsRunning (parts : CardParts) : Type 0 where
  pub mounted : IsMounted (memory_of parts)
  pub selected : AreSelected (descriptors_of parts.table) parts.channels
  pub toolkit : RunsToolkit parts.table parts.index parts.session parts.boxes
  pub stays : parts.leaving ≡ None

-- What holds of every card after its opening: where it is on its device has power, and the card that it stands for is a good one.
pub record IsCardReady (parts : CardParts) : Type 0 where
  pub set : IsSet parts
  pub power : parts.is_on ≡ true → parts.meter.powered ≡ true
  pub running : parts.is_due ≡ false → IsRunning parts
  pub good : IfSome (card_of parts) IsGood

-- The card that a command leaves after Ok is a good one, and after a fault the one that a restart makes of it.
pub record IsLeftGood {X : Type 0} (result : Result X StoreFault) (parts : CardParts) : Type 0 where
  pub good : OnOk result (IfSome (card_of parts) IsGood)
  pub left : OnErr result (IfSome (card_due parts) IsGood)
