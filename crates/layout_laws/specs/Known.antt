-- What is known of a memory that stands for a state, from the table of its entries.
use Rattle.std.specs.Prelude.{◌≡◌, ◌≢◌, ◌⊎◌, ℕ, ◌+◌, ◌≤◌, ◌<◌, List, slice_get, option_and_then, count_by}
use Rattle.card_state.specs.declared.entries.Node.{Node}
use Rattle.card_state.specs.declared.entries.PinSlot.{PinSlot}
use Rattle.card_state.specs.declared.entries.Row.{Row}
use Rattle.card_state.specs.declared.entries.Loaded.{Loaded}
use Rattle.card_state.specs.Kinds.{df_kind}
use Rattle.card_state.specs.Places.{data_place, data_end}
use Rattle.card_state.specs.Persistent.{Persistent}
use Rattle.card_state.specs.Checks.{key_of_slot}
use Rattle.card_state.specs.Sections.{has_text}
use Rattle.card_state.specs.States.{state_of}
use Rattle.card_state.specs.StateLaws.{file_with_number, pin_with_key, row_on_shelf, IsOfTable, text_count_of}
use Rattle.card_state.specs.Standing.{state_in, Stands}
use Rattle.card_state.specs.Used.{HasNode, HasPin, HasRow, file_if, pin_if, registration_if}
use Rattle.layout_laws.specs.Cards.{IsCard, IsFreeRange}
use Rattle.layout_laws.specs.Standing.{IsFileEntry, IsPinEntry, IsRowEntry}

-- its state is that of its entries, and sound
abbrev pub StandingIsCard : Type 0
StandingIsCard = (store_mark : ℕ) (content : List ℕ) (table : Loaded) (state : Persistent) → Stands store_mark content table state → IsCard content × (state ≡ state_in content)

-- its state is that of the table over its bytes; its PINs, rows and numbers are the table's alone
abbrev pub StandingIsOfTable : Type 0
StandingIsOfTable =
    (store_mark : ℕ) (content : List ℕ) (table : Loaded) (state : Persistent) → Stands store_mark content table state → (state ≡ state_of table content) × IsOfTable table state

-- ---- entries that are used

-- each used entry is that of a file of the state
abbrev pub NodesAreFiles : Type 0
NodesAreFiles =
    (store_mark : ℕ) (content : List ℕ) (table : Loaded) (state : Persistent) (number : ℕ) (node : Node)
    → Stands store_mark content table state → HasNode table number node → IsFileEntry content table state number node

-- each slot with a key is that of a PIN of the state
abbrev pub SlotsArePins : Type 0
SlotsArePins =
    (store_mark : ℕ) (content : List ℕ) (table : Loaded) (state : Persistent) (slot : ℕ) (pin : PinSlot)
    → Stands store_mark content table state → HasPin table slot pin → IsPinEntry state slot pin

-- each used row is that of a registered applet of the state
abbrev pub RowsAreRegistrations : Type 0
RowsAreRegistrations =
    (store_mark : ℕ) (content : List ℕ) (table : Loaded) (state : Persistent) (shelf : ℕ) (row : Row)
    → Stands store_mark content table state → HasRow table shelf row → IsRowEntry table state shelf row

-- ---- what the state has under a number, a key, on a shelf: what the entry stands for, or nothing where it is not used

-- the state has under a number the file of the entry, where that is used
abbrev pub FileOfNumber : Type 0
FileOfNumber =
    (store_mark : ℕ) (content : List ℕ) (table : Loaded) (state : Persistent) (number : ℕ)
    → Stands store_mark content table state → file_with_number state number ≡ option_and_then (file_if content number) (slice_get table.nodes number)

-- the state has under a key the PIN of its slot, where there is one
abbrev pub PinOfKey : Type 0
PinOfKey =
    (store_mark : ℕ) (content : List ℕ) (table : Loaded) (state : Persistent) (slot : ℕ)
    → Stands store_mark content table state → slot < 3 → pin_with_key state (key_of_slot slot) ≡ option_and_then pin_if (slice_get table.pins slot)

-- the state has on a shelf the applet of the row, where that is used
abbrev pub RowOfShelf : Type 0
RowOfShelf =
    (store_mark : ℕ) (content : List ℕ) (table : Loaded) (state : Persistent) (shelf : ℕ)
    → Stands store_mark content table state → row_on_shelf state shelf ≡ option_and_then (registration_if shelf) (slice_get table.rows shelf)

-- each file by its number, each PIN by its key and each row by its shelf
pub record FoundByName : Type 0 where
  pub numbers : FileOfNumber
  pub keys : PinOfKey
  pub shelves : RowOfShelf

-- as many texts as in the table
abbrev pub TextsOfTable : Type 0
TextsOfTable =
    (store_mark : ℕ) (content : List ℕ) (table : Loaded) (state : Persistent) → Stands store_mark content table state → count_by has_text state.rows ≡ text_count_of table

-- a range beside the bytes of each EF of the table
pub record IsBesideNodes (table : Loaded) (place count : ℕ) : Type 0 where
  pub from : data_place ≤ place
  pub to : place + count ≤ data_end table.wide
  pub beside : (number : ℕ) (node : Node) → HasNode table number node → node.kind ≢ df_kind → (node.place + node.size ≤ place) ⊎ (place + count ≤ node.place)

-- is no file's of the state
abbrev pub RangesAreFree : Type 0
RangesAreFree =
    (store_mark : ℕ) (content : List ℕ) (table : Loaded) (state : Persistent) (place count : ℕ)
    → Stands store_mark content table state → IsBesideNodes table place count → IsFreeRange table.wide state.files place count
