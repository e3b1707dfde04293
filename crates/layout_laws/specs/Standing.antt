-- A memory that stands for a state, with the table of its entries.
use Rattle.std.specs.Prelude.{◌≡◌, ℕ, ◌<◌, ◌^◌, List, length, Contains, Some, Ok}
use Rattle.card_state.specs.declared.entries.Node.{Node}
use Rattle.card_state.specs.declared.entries.PinSlot.{PinSlot}
use Rattle.card_state.specs.declared.entries.Row.{Row}
use Rattle.card_state.specs.declared.entries.Loaded.{Loaded}
use Rattle.card_state.specs.Places.{memory_size, row_count}
use Rattle.card_state.specs.Decoding.{table_of}
use Rattle.card_state.specs.Persistent.{File, Persistent}
use Rattle.card_state.specs.Checks.{key_of_slot}
use Rattle.card_state.specs.StateLaws.{file_with_number, pin_with_key, row_on_shelf}
use Rattle.card_state.specs.States.{file_of, pin_state, registration_of}
use Rattle.card_state.specs.Soundness.{IsSound}
use Rattle.card_state.specs.Standing.{stands_for, Stands}
use Rattle.card_state.specs.Holding.{HoldsByKind}
use Rattle.card_state.specs.Forms.{HasRightHead}
use Rattle.card_state.specs.Used.{LiesAmongFiles}

-- stands for this state where it is sound
abbrev pub StandsIfSound : ℕ → List ℕ → Loaded → Persistent → Type 0
StandsIfSound store_mark content table state = IsSound state → Stands store_mark content table state

-- A memory with these entries, which stands for this state if it stands for one at all.
pub record StandsForNoOther (store_mark : ℕ) (content : List ℕ) (table : Loaded) (state : Persistent) : Type 0 where
  pub long : length content ≡ memory_size
  pub entries : table_of content ≡ table
  pub decoded : (other : Persistent) → stands_for store_mark content ≡ Ok other → other ≡ state

-- the file of this number
pub record IsFileNumbered (state : Persistent) (number : ℕ) (file : File) : Type 0 where
  pub there : Contains state.files file
  pub number_is : file.number ≡ number

-- ---- entries that are used: each stands for a file, a PIN or a row of the state

-- the entry is that of a file of the state
pub record IsFileEntry (content : List ℕ) (table : Loaded) (state : Persistent) (number : ℕ) (node : Node) : Type 0 where
  pub low : number < 128
  pub there : Contains state.files (file_of content number node)
  pub found : file_with_number state number ≡ Some (file_of content number node)
  pub holds : HoldsByKind node (file_of content number node).contents
  pub lies : LiesAmongFiles table.wide node
  pub head : HasRightHead node

-- the slot is that of a PIN of the state
pub record IsPinEntry (state : Persistent) (slot : ℕ) (pin : PinSlot) : Type 0 where
  pub low : slot < 3
  pub own : pin.key ≡ key_of_slot slot
  pub there : Contains state.pins (pin_state pin)
  pub found : pin_with_key state pin.key ≡ Some (pin_state pin)

-- the row is that of a registered applet of the state
pub record IsRowEntry (table : Loaded) (state : Persistent) (shelf : ℕ) (row : Row) : Type 0 where
  pub low : shelf < row_count table.wide
  pub there : Contains state.rows (registration_of shelf row)
  pub found : row_on_shelf state shelf ≡ Some (registration_of shelf row)
  pub events : row.events < 2 ^ 12
