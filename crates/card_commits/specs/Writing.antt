-- What a card's memory holds after a change.
use Rattle.std.specs.Prelude.{◌≡◌, ◌⊎◌, ℕ, ◌+◌, ◌*◌, ◌^◌, ◌<◌, nat_lt, if◌then◌else◌, true, false, List, [], ◌∷◌, length, Option, Some, None, option_map, Result, OnOk, OnErr}
use Rattle.store_form.specs.declared.store.StoreFault.{StoreFault}
use Rattle.store_form.specs.Pieces.{Piece, applied}
use Rattle.card_state.specs.declared.entries.Node.{Node}
use Rattle.card_state.specs.declared.entries.PinSlot.{PinSlot}
use Rattle.card_state.specs.declared.entries.Loaded.{Loaded}
use Rattle.card_state.specs.Blank.{unused_node}
use Rattle.card_state.specs.Changes.{PinFields, Change, PutBytes, PutRecord, PutNewest, PutLife, PutPin, MakeFile, TakeFile, FitFile, AddRow, TakeRow, PutEvents, PutKept}
use Rattle.card_state.specs.Decoding.{table_of}
use Rattle.card_state.specs.Kinds.{codes_of}
use Rattle.card_state.specs.Memory.{Memory}
use Rattle.card_state.specs.Persistent.{Contents, Records, Rule, File, Pin}
use Rattle.card_state.specs.Soundness.{slot_of_key}
use Rattle.file_model.specs.Files.{node_at}
use Rattle.file_model.specs.Pins.{pin_found}
use Rattle.layout_entries.specs.Spelling.{node_part, pin_part, row_part, sequence_part}
use Rattle.layout_laws.specs.ChangeLaws.{kept_pieces}
use Rattle.card_commits.specs.Entries.{row_at, with_head_moved}
use Rattle.card_commits.specs.Pins.{span_set}
use Rattle.card_commits.specs.Prepared.{filled, moved}

-- ---- entries

-- the slot of a PIN
abbrev pub slot_with : Pin → PinSlot
slot_with pin = record {
  key = pin.key;
  enabled = pin.is_enabled;
  tries = pin.tries;
  unblock_tries = pin.unblock_tries;
  value = record { 0 = pin.value };
  unblock = record { 0 = pin.unblock };
}

-- the length of the records, 0 where there are none
abbrev pub record_width : Contents → ℕ
record_width (Records (bytes ∷ records)) = length bytes
record_width _ = 0

-- an entry with a rule, or as it is
abbrev pub entry_ruled : Option Rule → Node → Node
entry_ruled None node = node
entry_ruled (Some rule) node = record node { rule = rule.number; arr = record { 0 = rule.arr } }

-- the entry of a new file
abbrev pub entry_with : File → Node
entry_with file = entry_ruled file.rule (record unused_node {
  used = true;
  kind = file.kind;
  id = record { 0 = file.id };
  parent = file.parent;
  short = file.short;
  life = file.life;
  place = file.place;
  size = file.size;
  length = record_width file.contents;
})

-- ---- what a change writes

-- of a PIN that is there, its fields in the slot of its key; of another nothing
abbrev pub pin_pieces : PinFields → Option Pin → List Piece
pin_pieces fields None = []
pin_pieces fields (Some pin) = pin_part (slot_of_key pin.key) (slot_with pin) (span_set fields).0 (span_set fields).1 ∷ []

-- of a file that grows, its place and its size; of another its size alone; nothing where there is no such file
abbrev pub fit_pieces : ℕ → Node → Option File → List Piece
fit_pieces number node None = []
fit_pieces number node (Some file) =
    let new : Node = record node { place = file.place; size = file.size } in
    (if nat_lt node.size file.size then node_part number new 10 14 else node_part number new 12 14) ∷ []

-- The pieces that the commit of a change writes, in order, each bytes with their place, in a memory with this table. Bytes of a file, and a
-- record of a linear fixed one, are one piece. A new record 1 stands in the place of the oldest one, and after it its file's head is written.
-- Of a file's entry there is written its life cycle status; its size, with its place before that where it grows; the byte that says that it is
-- used, where the file goes; and all 16 bytes of a new one. Of a PIN's slot there are written the bytes from the first field that is set to the
-- last. A new row is 51 bytes, and after them come the next sequence number and the kept bytes that stand apart. Of a row there are written its
-- events, its kept bytes with their length before them, or the byte that says that it is used. What a store holds shows neither their order
-- nor how they are cut.
unfoldable pub pieces_of : Loaded → Change → List Piece
pieces_of table (PutBytes number offset bytes) = record { place = (node_at table number).place + offset; bytes = bytes } ∷ []
pieces_of table (PutRecord number index bytes) = record { place = (node_at table number).place + index * (node_at table number).length; bytes = bytes } ∷ []
pieces_of table (PutNewest number bytes) =
    let node : Node = with_head_moved (node_at table number) in
    record { place = node.place + node.head * node.length; bytes = bytes } ∷ node_part number node 15 16 ∷ []
pieces_of table (PutLife number life) = node_part number (record (node_at table number) { life = life }) 6 7 ∷ []
pieces_of table (PutPin fields key pins) = pin_pieces fields (pin_found pins key)
pieces_of table (MakeFile file) = node_part file.number (entry_with file) 0 16 ∷ []
pieces_of table (TakeFile number) = node_part number (record (node_at table number) { used = false }) 0 1 ∷ []
pieces_of table (FitFile number file) = fit_pieces number (node_at table number) file
pieces_of table (AddRow shelf row) = row_part shelf row 0 51 ∷ sequence_part (table.next + 1) ∷ kept_pieces shelf row
pieces_of table (TakeRow shelf) = row_part shelf (record (row_at table shelf) { used = false }) 0 1 ∷ []
pieces_of table (PutEvents shelf events) = row_part shelf (record (row_at table shelf) { events = events }) 5 7 ∷ []
pieces_of table (PutKept shelf kept) = row_part shelf (record (row_at table shelf) { kept = kept }) 18 (19 + length kept) ∷ []

-- a file that grows is copied to its new place, with FF after its bytes
abbrev pub moved_if : Node → Option File → List ℕ → List ℕ
moved_if node None content = content
moved_if node (Some file) content = if nat_lt node.size file.size then moved node file.place file.size content else content

-- the bytes before the commit of a change: a new file's are FF, and those of a file that grows stand at its new place, with FF after them; nothing else is prepared
unfoldable pub prepared_for : Change → List ℕ → List ℕ
prepared_for (MakeFile file) content = filled file.place file.size content
prepared_for (FitFile number file) content = moved_if (node_at (table_of content) number) file content
prepared_for _ content = content

-- the bytes of a card's memory after a change of it
unfoldable pub written : Change → List ℕ → List ℕ
written change content = applied (pieces_of (table_of content) change) (prepared_for change content)

-- the bytes after some changes, in order
unfoldable pub all_written : List Change → List ℕ → List ℕ
all_written [] content = content
all_written (change ∷ changes) content = all_written changes (written change content)

-- ---- what a call has written

-- One change, in one commit: after Ok the store holds the bytes after it, and after a fault these or those before it.
pub record WritesChange {T : Type 0} (old new : Memory) (result : Result T StoreFault) (change : Change) : Type 0 where
  -- carried out, where it tells its bytes: those after the change
  pub ok : OnOk result (new.told ≡ option_map (written change) old.told)
  -- stopped by a fault: as they were, or after the change
  pub whole : OnErr result ((new.told ≡ old.told) ⊎ (new.told ≡ option_map (written change) old.told))

-- The same of the events of a row, which are just those of these codes then.
pub record WritesEvents {T : Type 0} (old new : Memory) (result : Result T StoreFault) (shelf : ℕ) (codes : List ℕ) : Type 0 where
  -- twelve bits, one for each code
  pub events : ℕ
  pub low : events < 2 ^ 12
  pub codes_are : codes_of events ≡ codes
  pub writes : WritesChange old new result (PutEvents shelf events)

-- The same of pieces, whatever they change.
pub record WritesPieces {T : Type 0} (old new : Memory) (result : Result T StoreFault) (pieces : List Piece) : Type 0 where
  pub ok : OnOk result (new.told ≡ option_map (applied pieces) old.told)
  pub whole : OnErr result ((new.told ≡ old.told) ⊎ (new.told ≡ option_map (applied pieces) old.told))
