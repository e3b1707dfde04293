-- The persistent state that a table of entries stands for, over the bytes of the files.
use Rattle.std.specs.Prelude.{ℕ, ◌+◌, ◌*◌, ◌/◌, ◌==◌, not, if◌then◌else◌, List, ◌++◌, take, drop, map, filter, slice_range, Option, Some, None}
use Rattle.std.specs.List.{range_with_len, enumerate_from}
use Rattle.card_state.specs.declared.entries.Node.{Node}
use Rattle.card_state.specs.declared.entries.PinSlot.{PinSlot}
use Rattle.card_state.specs.declared.entries.Row.{Row}
use Rattle.card_state.specs.declared.entries.Loaded.{Loaded}
use Rattle.card_state.specs.Kinds.{df_kind, transparent_kind, activated, codes_of}
use Rattle.card_state.specs.Persistent.{Rule, Contents, Files, Bytes, Records, File, Pin, Registration, Persistent}

-- the bytes of a file
abbrev pub file_bytes : List ℕ → Node → List ℕ
file_bytes content node = slice_range content node.place (node.place + node.size)

-- how many records a file has: its size divided by the length of a record
abbrev pub record_count : Node → ℕ
record_count node = node.size / node.length

-- the records as they lie
abbrev pub records_of : ℕ → ℕ → List ℕ → List (List ℕ)
records_of width count bytes = map (λ index. slice_range bytes (index * width) (index * width + width)) (range_with_len 0 count)

-- the records from record 1 on: the one at the head, then those after it, and round to those before it
abbrev pub from_head : ℕ → List (List ℕ) → List (List ℕ)
from_head head records = drop head records ++ take head records

-- what a file with these bytes holds
abbrev pub contents_in : List ℕ → Node → Contents
contents_in bytes node =
    if node.kind == df_kind then Files
    else if node.kind == transparent_kind then Bytes bytes
    else Records (from_head node.head (records_of node.length (record_count node) bytes))

-- what a file holds, read from its bytes in the memory
unfoldable pub contents_of : List ℕ → Node → Contents
contents_of content node = contents_in (file_bytes content node) node

-- the rule of a file's entry; record 0 stands for none
abbrev pub rule_of : Node → Option Rule
rule_of node = if node.rule == 0 then None else Some (record { arr = node.arr.0; number = node.rule })

-- the DF of an entry, of which only parent, kind and identifier count
abbrev pub df_file : ℕ → Node → File
df_file number node = record { number = number; parent = node.parent; kind = node.kind; id = node.id.0; short = 0; life = activated; rule = None; place = 0; size = 0; contents = Files }

-- the EF of an entry, with what it holds
abbrev pub ef_file : List ℕ → ℕ → Node → File
ef_file content number node = record {
  number = number;
  parent = node.parent;
  kind = node.kind;
  id = node.id.0;
  short = node.short;
  life = node.life;
  rule = rule_of node;
  place = node.place;
  size = node.size;
  contents = contents_of content node;
}

-- the file of an entry, a DF or an EF
abbrev pub file_of : List ℕ → ℕ → Node → File
file_of content number node = if node.kind == df_kind then df_file number node else ef_file content number node

-- the PIN of a slot
abbrev pub pin_state : PinSlot → Pin
pin_state pin = record {
  key = pin.key;
  is_enabled = pin.enabled;
  tries = pin.tries;
  unblock_tries = pin.unblock_tries;
  value = pin.value.0;
  unblock = pin.unblock.0;
}

-- the registered applet of a row, with the codes of the events whose bits are set
abbrev pub registration_of : ℕ → Row → Registration
registration_of shelf row = record {
  shelf = shelf;
  kind = row.kind;
  priority = row.priority;
  sequence = row.sequence;
  codes = codes_of row.events;
  text = row.text;
  kept = row.kept;
}

-- the entries that are used, each with its number
abbrev pub used_nodes : List Node → List (ℕ × Node)
used_nodes nodes = filter (λ entry. entry.1.used) (enumerate_from 0 nodes)

-- the rows that are used, each with its shelf
abbrev pub used_rows : List Row → List (ℕ × Row)
used_rows rows = filter (λ entry. entry.1.used) (enumerate_from 0 rows)

-- the slots that have a key
abbrev pub present_pins : List PinSlot → List PinSlot
present_pins pins = filter (λ pin. not (pin.key == 0)) pins

-- the files of a table by ascending numbers
unfoldable pub files_of : Loaded → List ℕ → List File
files_of loaded content = map (λ entry. file_of content entry.0 entry.1) (used_nodes loaded.nodes)

-- the PINs of a table in the order of their slots; the bytes of the files don't bear on them, nor on the rows
unfoldable pub pins_of : Loaded → List Pin
pins_of loaded = map pin_state (present_pins loaded.pins)

-- the rows of a table by ascending shelves
unfoldable pub rows_of : Loaded → List Registration
rows_of loaded = map (λ entry. registration_of entry.0 entry.1) (used_rows loaded.rows)

-- the state of a table, over the bytes of the files
unfoldable pub state_of : Loaded → List ℕ → Persistent
state_of loaded content = record {
  is_wide = loaded.wide;
  files = files_of loaded content;
  pins = pins_of loaded;
  rows = rows_of loaded;
  next_sequence = loaded.next;
}
