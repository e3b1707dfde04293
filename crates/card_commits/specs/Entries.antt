-- Which files, PINs and rows the calls are for; and the entries of a table, changed.
use Rattle.std.specs.Prelude.{◌≡◌, ◌≢◌, ℕ, ◌+◌, ◌*◌, ◌≤◌, ◌<◌, ◌==◌, true, IsTrue, if◌then◌else◌, List, map, IsSome, slice_get, slice_set, slice_index_or, IsSomeAnd}
use Rattle.card_state.specs.declared.entries.Node.{Node}
use Rattle.card_state.specs.declared.entries.PinSlot.{PinSlot}
use Rattle.card_state.specs.declared.entries.Row.{Row}
use Rattle.card_state.specs.declared.entries.Loaded.{Loaded}
use Rattle.card_state.specs.Blank.{absent_pin, unused_row}
use Rattle.card_state.specs.Kinds.{transparent_kind, linear_kind, cyclic_kind, is_ef_kind, has_records}
use Rattle.card_state.specs.States.{record_count}
use Rattle.file_model.specs.declared.descriptors.Descriptor.{Descriptor}
use Rattle.file_model.specs.declared.descriptors.Wanted.TheVariants.{Number}
use Rattle.file_model.specs.Files.{descriptors_of, file_found}
use Rattle.layout_laws.specs.ChangeLaws.{oldest}

-- ---- files

-- there is a file with this number
abbrev pub IsThere : Loaded → ℕ → Type 0
IsThere table number = IsSome (file_found (descriptors_of table) (Number number))

-- there is a file with this number, and it is so
abbrev pub HasFile : Loaded → ℕ → (Descriptor → Type 0) → Type 0
HasFile table number is = IsSomeAnd (file_found (descriptors_of table) (Number number)) is

-- a transparent file, with so many bytes from this offset on
abbrev pub HasBytes : Loaded → ℕ → ℕ → ℕ → Type 0
HasBytes table number offset count = HasFile table number (λ file. (file.kind ≡ transparent_kind) × (offset + count ≤ file.size))

-- a file with records of so many bytes, of which `index + 1` is one
abbrev pub HasRecord : Loaded → ℕ → ℕ → ℕ → Type 0
HasRecord table number index width = HasFile table number (λ file. IsTrue (has_records file.kind) × (index < file.count) × (file.width ≡ width))

-- a linear fixed file with such a record
abbrev pub HasLinearRecord : Loaded → ℕ → ℕ → ℕ → Type 0
HasLinearRecord table number index width = HasFile table number (λ file. (file.kind ≡ linear_kind) × (index < file.count) × (file.width ≡ width))

-- a linear fixed file, with so many bytes from record `index + 1` on
abbrev pub HasLinearRecords : Loaded → ℕ → ℕ → ℕ → Type 0
HasLinearRecords table number index size = HasFile table number (λ file. (file.kind ≡ linear_kind) × (index * file.width + size ≤ file.count * file.width))

-- a cyclic file with records of so many bytes
abbrev pub HasRing : Loaded → ℕ → ℕ → Type 0
HasRing table number width = HasFile table number (λ file. (file.kind ≡ cyclic_kind) × (file.width ≡ width))

-- an EF has this number
abbrev pub HasEf : Loaded → ℕ → Type 0
HasEf table number = HasFile table number (λ file. IsTrue (is_ef_kind file.kind))

-- ---- entries

-- the slot with this number
abbrev pub pin_at : Loaded → ℕ → PinSlot
pin_at table slot = slice_index_or table.pins slot absent_pin

-- the row of this shelf
abbrev pub row_at : Loaded → ℕ → Row
row_at table shelf = slice_index_or table.rows shelf unused_row

-- there is a PIN in this slot
abbrev pub HasPinIn : Loaded → ℕ → Type 0
HasPinIn table slot = IsSomeAnd (slice_get table.pins slot) (λ pin. pin.key ≢ 0)

-- there is a row on this shelf
abbrev pub HasRowOn : Loaded → ℕ → Type 0
HasRowOn table shelf = IsSomeAnd (slice_get table.rows shelf) (λ row. row.used ≡ true)

-- ---- a table in which one entry is another

-- the table with another entry under this number
abbrev pub with_node_at : Loaded → ℕ → Node → Loaded
with_node_at table number node = record table { nodes = slice_set table.nodes number node }

-- the oldest record of a cyclic file is the newest one
abbrev pub with_head_moved : Node → Node
with_head_moved node = record node { head = oldest node.head (record_count node) }

-- with this life cycle status told of one file
abbrev pub with_life_told : ℕ → ℕ → List Descriptor → List Descriptor
with_life_told number life files = map (λ (file : Descriptor). if file.number == number then record file { life = life } else file) files

-- the table with another slot
abbrev pub with_pin_at : Loaded → ℕ → PinSlot → Loaded
with_pin_at table slot pin = record table { pins = slice_set table.pins slot pin }

-- the table with another row on this shelf
abbrev pub with_row_at : Loaded → ℕ → Row → Loaded
with_row_at table shelf row = record table { rows = slice_set table.rows shelf row }
