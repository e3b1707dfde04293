-- The entries of a table that are used, and what they stand for.
use Rattle.std.specs.Prelude.{◌≡◌, ◌≢◌, ℕ, ◌+◌, ◌≤◌, ◌==◌, Bool, true, if◌then◌else◌, List, slice_get, Option, Some, None}
use Rattle.card_state.specs.declared.entries.Node.{Node}
use Rattle.card_state.specs.declared.entries.PinSlot.{PinSlot}
use Rattle.card_state.specs.declared.entries.Row.{Row}
use Rattle.card_state.specs.declared.entries.Loaded.{Loaded}
use Rattle.card_state.specs.Kinds.{df_kind}
use Rattle.card_state.specs.Places.{data_place, data_end}
use Rattle.card_state.specs.Persistent.{File, Pin, Registration}
use Rattle.card_state.specs.Checks.{key_of_slot}
use Rattle.card_state.specs.States.{file_of, pin_state, registration_of}

-- ---- by their numbers

-- the table has this file under this number
pub record HasNode (table : Loaded) (number : ℕ) (node : Node) : Type 0 where
  pub there : slice_get table.nodes number ≡ Some node
  pub used : node.used ≡ true

-- the table has a PIN in this slot
pub record HasPin (table : Loaded) (slot : ℕ) (pin : PinSlot) : Type 0 where
  pub there : slice_get table.pins slot ≡ Some pin
  pub key : pin.key ≢ 0

-- the table has an applet registered on this shelf
pub record HasRow (table : Loaded) (shelf : ℕ) (row : Row) : Type 0 where
  pub there : slice_get table.rows shelf ≡ Some row
  pub used : row.used ≡ true

-- each PIN has the key of its slot
abbrev pub HasOwnKeys : Loaded → Type 0
HasOwnKeys table = (slot : ℕ) (pin : PinSlot) → HasPin table slot pin → pin.key ≡ key_of_slot slot

-- ---- what an entry stands for, if it is used

-- the file of an entry, with what stands in its bytes
abbrev pub file_if : List ℕ → ℕ → Node → Option File
file_if content number node = if node.used then Some (file_of content number node) else None

-- the registered applet that a row stands for, where it is used
abbrev pub registration_if : ℕ → Row → Option Registration
registration_if shelf row = if row.used then Some (registration_of shelf row) else None

-- the PIN that a slot stands for, where it has a key
abbrev pub pin_if : PinSlot → Option Pin
pin_if pin = if pin.key == 0 then None else Some (pin_state pin)

-- ---- where a file lies

-- an EF has its bytes among those of the files
abbrev pub LiesAmongFiles : Bool → Node → Type 0
LiesAmongFiles wide node = node.kind ≢ df_kind → (data_place ≤ node.place) × (node.place + node.size ≤ data_end wide)
