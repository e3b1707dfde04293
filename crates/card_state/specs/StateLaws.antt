-- From a table of entries to its state, and back.
use Rattle.std.specs.Prelude.{◌≡◌, ℕ, ◌<◌, ◌==◌, List, length, map, find, slice_get, Option, option_and_then, Contains, count_by}
use Rattle.card_state.specs.declared.entries.Node.{Node}
use Rattle.card_state.specs.declared.entries.PinSlot.{PinSlot}
use Rattle.card_state.specs.declared.entries.Row.{Row}
use Rattle.card_state.specs.declared.entries.Loaded.{Loaded}
use Rattle.card_state.specs.declared.sizes.TheConstants.{PIN_COUNT}
use Rattle.card_state.specs.Persistent.{Files, File, Pin, Registration, Persistent}
use Rattle.card_state.specs.Checks.{key_of_slot, shows_item}
use Rattle.card_state.specs.Sections.{has_text}
use Rattle.card_state.specs.States.{file_of, pins_of, rows_of, state_of, registration_of, pin_state}
use Rattle.card_state.specs.Used.{HasNode, HasPin, HasRow, HasOwnKeys, file_if, registration_if, pin_if}

-- ---- what a state has under a number, a key, on a shelf

-- the file with this number, if there is one
abbrev pub file_with_number : Persistent → ℕ → Option File
file_with_number state number = find (λ file. file.number == number) state.files

-- the PIN with this key, if there is one
abbrev pub pin_with_key : Persistent → ℕ → Option Pin
pin_with_key state key = find (λ pin. pin.key == key) state.pins

-- the applet that is registered on this shelf, if there is one
abbrev pub row_on_shelf : Persistent → ℕ → Option Registration
row_on_shelf state shelf = find (λ row. row.shelf == shelf) state.rows

-- ---- it is the entry's; where the entry is not used there is none

-- a state has under a number the file of the table's entry, where that is used
abbrev pub FilesAreEntries : Type 0
FilesAreEntries = (table : Loaded) (content : List ℕ) (number : ℕ) → file_with_number (state_of table content) number ≡ option_and_then (file_if content number) (slice_get table.nodes number)

-- a state has under a key the PIN of the slot, where there is one
abbrev pub PinsAreEntries : Type 0
PinsAreEntries =
    (table : Loaded) (content : List ℕ) (slot : ℕ) → HasOwnKeys table → length table.pins ≡ PIN_COUNT → slot < PIN_COUNT
    → pin_with_key (state_of table content) (key_of_slot slot) ≡ option_and_then pin_if (slice_get table.pins slot)

-- a state has on a shelf the applet of the table's row, where that is used
abbrev pub RowsAreEntries : Type 0
RowsAreEntries = (table : Loaded) (content : List ℕ) (shelf : ℕ) → row_on_shelf (state_of table content) shelf ≡ option_and_then (registration_if shelf) (slice_get table.rows shelf)

-- ---- and each that a state has is an entry's

-- a file is that of a used entry
pub record IsOfNode (table : Loaded) (content : List ℕ) (file : File) : Type 0 where
  pub node : Node
  pub has : HasNode table file.number node
  pub same : file ≡ file_of content file.number node

-- a PIN is that of a slot with a key
pub record IsOfSlot (table : Loaded) (pin : Pin) : Type 0 where
  pub slot : ℕ
  pub entry : PinSlot
  pub has : HasPin table slot entry
  pub same : pin ≡ pin_state entry

-- a registered applet is that of a used row
pub record IsOfRow (table : Loaded) (row : Registration) : Type 0 where
  pub entry : Row
  pub has : HasRow table row.shelf entry
  pub same : row ≡ registration_of row.shelf entry

-- each file of a state is that of an entry
abbrev pub FilesComeFromEntries : Type 0
FilesComeFromEntries = (table : Loaded) (content : List ℕ) (file : File) → Contains (state_of table content).files file → IsOfNode table content file

-- each PIN of a state is that of a slot
abbrev pub PinsComeFromEntries : Type 0
PinsComeFromEntries = (table : Loaded) (content : List ℕ) (pin : Pin) → Contains (state_of table content).pins pin → IsOfSlot table pin

-- each registered applet of a state is that of a row
abbrev pub RowsComeFromEntries : Type 0
RowsComeFromEntries = (table : Loaded) (content : List ℕ) (row : Registration) → Contains (state_of table content).rows row → IsOfRow table row

-- each file, PIN and row that a state has is an entry's
pub record ComesFromEntries : Type 0 where
  pub files : FilesComeFromEntries
  pub pins : PinsComeFromEntries
  pub rows : RowsComeFromEntries

-- ---- what is of the table alone

-- The PINs, the rows, the next sequence number and whether the card is wide are the table's.
pub record IsOfTable (table : Loaded) (state : Persistent) : Type 0 where
  pub pins : state.pins ≡ pins_of table
  pub rows : state.rows ≡ rows_of table
  pub next : state.next_sequence ≡ table.next
  pub wide : state.is_wide ≡ table.wide

-- PINs, rows and all of a file but what it holds are told by the table alone
abbrev pub StatesAreOfTables : Type 0
StatesAreOfTables = (table : Loaded) (content : List ℕ) → IsOfTable table (state_of table content)

-- a file without what it holds
abbrev pub emptied : File → File
emptied file = record file { contents = Files }

-- The bytes of the memory bear on what the files hold, and on nothing else of them.
abbrev pub FieldsAreOfTables : Type 0
FieldsAreOfTables = (table : Loaded) (content content' : List ℕ) → map emptied (state_of table content).files ≡ map emptied (state_of table content').files

-- the texts that are counted in a table
abbrev pub text_count_of : Loaded → ℕ
text_count_of table = count_by shows_item table.rows

-- As many rows of the table have a text as of the state.
abbrev pub TextsAreCounted : Type 0
TextsAreCounted = (table : Loaded) (content : List ℕ) → count_by has_text (state_of table content).rows ≡ text_count_of table
