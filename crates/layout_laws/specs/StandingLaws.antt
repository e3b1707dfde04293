-- What a card stands for after a commit: the state in which one file, one PIN, one row or one number is another, and no other.
use Rattle.std.specs.Prelude.{◌≡◌, ◌≢◌, ◌⊎◌, ℕ, ◌+◌, ◌*◌, ◌≤◌, ◌<◌, ◌^◌, true, false, List, [], ◌∷◌, length, None, IsTrue, All, Contains, slice_index_or}
use Rattle.list_laws.specs.Patches.{Torn}
use Rattle.store_form.specs.Pieces.{applied}
use Rattle.card_state.specs.Standing.{Stands}
use Rattle.card_state.specs.declared.entries.Node.{Node}
use Rattle.card_state.specs.declared.entries.PinSlot.{PinSlot}
use Rattle.card_state.specs.declared.entries.Row.{Row}
use Rattle.card_state.specs.declared.entries.Loaded.{Loaded}
use Rattle.card_state.specs.Kinds.{transparent_kind, linear_kind, cyclic_kind, is_ef_kind, activated, deactivated, event_codes, codes_of, call_control_code}
use Rattle.card_state.specs.Places.{row_count}
use Rattle.card_state.specs.Decoding.{bytes_at}
use Rattle.card_state.specs.Persistent.{Bytes, Records, File, Persistent}
use Rattle.card_state.specs.States.{record_count, pin_state, rows_of}
use Rattle.card_state.specs.Ranges.{HasPinRanges}
use Rattle.card_state.specs.Events.{SetsBit, ClearsBit}
use Rattle.card_state.specs.Used.{HasNode, HasPin, HasRow, file_if, pin_if, registration_if, LiesAmongFiles}
use Rattle.card_state.specs.Changing.{with_file_at, with_row_on, with_pin_in, with_pin_for, with_bytes, with_record, with_newest_record, with_life, with_codes, with_code_committed, without_code_committed, with_kept_committed}
use Rattle.layout_entries.specs.Spelling.{node_part, pin_part, row_part, kept_part, sequence_part}
use Rattle.layout_entries.specs.Fields.{kept_anew, reread_node, reread_pin, reread_row}
use Rattle.layout_entries.specs.Laws.{after}
use Rattle.layout_laws.specs.Cards.{IsFreeRange}
use Rattle.layout_laws.specs.Changes.{with_node, with_slot, with_row}
use Rattle.layout_laws.specs.ChangeLaws.{kept_pieces, oldest, place_in_ring}
use Rattle.layout_laws.specs.Standing.{StandsIfSound, StandsForNoOther, IsFileNumbered}
use Rattle.layout_laws.specs.Writing.{IsFileChange, IsPinChange, IsRowChange, IsWholeFile, IsWholePin, IsWholeRow}

-- ---- files

-- some fields of a file's entry, after which the file is that of the new entry, or gone where this is not used
abbrev pub ChangedFileStands : Type 0
ChangedFileStands =
    (store_mark : ℕ) (content : List ℕ) (table : Loaded) (state : Persistent) (number from to : ℕ) (old new : Node)
    → Stands store_mark content table state → IsFileChange table number from to old new
    → StandsIfSound store_mark (after (node_part number new from to) content) (with_node table number new) (with_file_at state number (file_if content number new))

-- after a commit of a whole entry the memory stands for the state with that file, where this is sound
abbrev pub AddedFileStands : Type 0
AddedFileStands =
    (store_mark : ℕ) (content : List ℕ) (table : Loaded) (state : Persistent) (number : ℕ) (node : Node)
    → Stands store_mark content table state → IsWholeFile table.wide number node
    → StandsIfSound store_mark (after (node_part number node 0 16) content) (with_node table number node) (with_file_at state number (file_if content number node))

-- a file other than the MF, in which no file lies, is marked as not used
abbrev pub RemovedFileStands : Type 0
RemovedFileStands =
    (store_mark : ℕ) (content : List ℕ) (table : Loaded) (state : Persistent) (number : ℕ) (node : Node)
    → Stands store_mark content table state → HasNode table number node → number ≢ 0 → All (λ other. other.parent ≢ number) state.files
    → Stands store_mark (after (node_part number (record node { used = false }) 0 1) content) (with_node table number (record node { used = false })) (with_file_at state number None)

-- the life cycle status of an EF (ETSI TS 102 221, 11.1.14 and 11.1.15)
abbrev pub LifeCycleStands : Type 0
LifeCycleStands =
    (store_mark : ℕ) (content : List ℕ) (table : Loaded) (state : Persistent) (number life : ℕ) (node : Node)
    → Stands store_mark content table state → HasNode table number node → IsTrue (is_ef_kind node.kind) → (life ≡ deactivated) ⊎ (life ≡ activated)
    → Stands store_mark (after (node_part number (record node { life = life }) 6 7) content) (with_node table number (record node { life = life })) (with_life number life state)

-- Any bytes of an entry, also some that cut a field: the memory stands for the state with the file of the entry that they
-- then spell, or for none.
abbrev pub RereadFileStands : Type 0
RereadFileStands =
    (store_mark : ℕ) (content : List ℕ) (table : Loaded) (state : Persistent) (number from to : ℕ) (node : Node)
    → Stands store_mark content table state → number < 128 → from ≤ to → to ≤ 16 → LiesAmongFiles table.wide (reread_node content number from to node)
    → (let new = reread_node content number from to node in
    StandsForNoOther store_mark (after (node_part number node from to) content) (with_node table number new) (with_file_at state number (file_if content number new)))

-- ---- PINs

-- after a commit of some fields of a slot the memory stands for the state with that PIN changed
abbrev pub ChangedPinStands : Type 0
ChangedPinStands =
    (store_mark : ℕ) (content : List ℕ) (table : Loaded) (state : Persistent) (slot from to : ℕ) (old new : PinSlot)
    → Stands store_mark content table state → IsPinChange table slot from to old new
    → Stands store_mark (after (pin_part slot new from to) content) (with_slot table slot new) (with_pin_for state (pin_state new))

-- a whole slot: a PIN with the key of the slot, or none
abbrev pub AddedPinStands : Type 0
AddedPinStands =
    (store_mark : ℕ) (content : List ℕ) (table : Loaded) (state : Persistent) (slot : ℕ) (pin : PinSlot)
    → Stands store_mark content table state → IsWholePin slot pin
    → Stands store_mark (after (pin_part slot pin 0 20) content) (with_slot table slot pin) (with_pin_in state slot (pin_if pin))

-- any bytes of a slot with a PIN, whose key stays
abbrev pub RereadPinStands : Type 0
RereadPinStands =
    (store_mark : ℕ) (content : List ℕ) (table : Loaded) (state : Persistent) (slot from to : ℕ) (old pin : PinSlot)
    → Stands store_mark content table state → HasPin table slot old → from ≤ to → to ≤ 20 → HasPinRanges pin → (reread_pin content slot from to pin).key ≡ old.key
    → (let new = reread_pin content slot from to pin in
    StandsForNoOther store_mark (after (pin_part slot pin from to) content) (with_slot table slot new) (with_pin_for state (pin_state new)))

-- ---- rows

-- after a commit of some fields of a row the memory stands for the state with that row changed, where this is sound
abbrev pub ChangedRowStands : Type 0
ChangedRowStands =
    (store_mark : ℕ) (content : List ℕ) (table : Loaded) (state : Persistent) (shelf from to : ℕ) (old new : Row)
    → Stands store_mark content table state → IsRowChange table shelf from to old new
    → StandsIfSound store_mark (after (row_part shelf new from to) content) (with_row table shelf new) (with_row_on state shelf (registration_if shelf new))

-- a used row is marked as not used
abbrev pub RemovedRowStands : Type 0
RemovedRowStands =
    (store_mark : ℕ) (content : List ℕ) (table : Loaded) (state : Persistent) (shelf : ℕ) (row : Row) → Stands store_mark content table state → HasRow table shelf row
    → Stands store_mark (after (row_part shelf (record row { used = false }) 0 1) content) (with_row table shelf (record row { used = false })) (with_row_on state shelf None)

-- on no other shelf is a row that is registered for call control
abbrev pub NoOtherHasCallControl : Loaded → ℕ → Type 0
NoOtherHasCallControl table shelf = All (λ other. other.shelf ≢ shelf → Contains other.codes call_control_code → ⊥) (rows_of table)

-- the events that a used row is registered for, of which call control only where no other row has it
abbrev pub EventsStand : Type 0
EventsStand =
    (store_mark : ℕ) (content : List ℕ) (table : Loaded) (state : Persistent) (shelf events : ℕ) (row : Row)
    → Stands store_mark content table state → HasRow table shelf row → events < 2 ^ 12
    → (Contains (codes_of events) call_control_code → Contains (codes_of row.events) call_control_code) ⊎ NoOtherHasCallControl table shelf
    → Stands store_mark (after (row_part shelf (record row { events = events }) 5 7) content) (with_row table shelf (record row { events = events })) (with_codes shelf (codes_of events) state)

-- One event more: the bit of its code is set.
abbrev pub RegisteredStands : Type 0
RegisteredStands =
    (store_mark : ℕ) (content : List ℕ) (table : Loaded) (state : Persistent) (shelf code bit events : ℕ) (row : Row)
    → Stands store_mark content table state → HasRow table shelf row → events < 2 ^ 12 → Contains event_codes (code, bit) → SetsBit bit row.events events
    → (code ≢ call_control_code) ⊎ NoOtherHasCallControl table shelf
    → Stands store_mark (after (row_part shelf (record row { events = events }) 5 7) content) (with_row table shelf (record row { events = events })) (with_code_committed shelf code state)

-- One event less: the bit of its code is cleared.
abbrev pub DeregisteredStands : Type 0
DeregisteredStands =
    (store_mark : ℕ) (content : List ℕ) (table : Loaded) (state : Persistent) (shelf code bit events : ℕ) (row : Row)
    → Stands store_mark content table state → HasRow table shelf row → events < 2 ^ 12 → Contains event_codes (code, bit) → ClearsBit bit row.events events
    → Stands store_mark (after (row_part shelf (record row { events = events }) 5 7) content) (with_row table shelf (record row { events = events })) (without_code_committed shelf code state)

-- the events that a row is registered for: any, one more, one less
pub record CodesStand : Type 0 where
  pub events : EventsStand
  pub registered : RegisteredStands
  pub deregistered : DeregisteredStands

-- at most 32 bytes that a used row keeps, with their length, and any number of the bytes after them
abbrev pub KeptBytesStand : Type 0
KeptBytesStand =
    (store_mark : ℕ) (content : List ℕ) (table : Loaded) (state : Persistent) (shelf to : ℕ) (kept : List ℕ) (row : Row)
    → Stands store_mark content table state → HasRow table shelf row → length kept ≤ 32 → 19 + length kept ≤ to → to ≤ 51
    → Stands store_mark (after (row_part shelf (record row { kept = kept }) 18 to) content) (with_row table shelf (record row { kept = kept })) (with_kept_committed shelf kept state)

-- of the bytes that a used row keeps those that stand apart, from the 33rd on: it keeps as many as before
abbrev pub BytesApartStand : Type 0
BytesApartStand =
    (store_mark : ℕ) (content : List ℕ) (table : Loaded) (state : Persistent) (shelf : ℕ) (old new : Row)
    → Stands store_mark content table state → HasRow table shelf old → table.wide ≡ true → length new.kept ≤ 64
    → (let kept = kept_anew old.kept new.kept in
    Stands store_mark (after (kept_part shelf new) content) (with_row table shelf (record old { kept = kept })) (with_kept_committed shelf kept state))

-- what a row keeps: at most 32 bytes with their length, or those that stand apart, from the 33rd on
pub record WhatIsKeptStands : Type 0 where
  pub whole : KeptBytesStand
  pub apart : BytesApartStand

-- any bytes of a row, also some that cut a field
abbrev pub RereadRowStands : Type 0
RereadRowStands =
    (store_mark : ℕ) (content : List ℕ) (table : Loaded) (state : Persistent) (shelf from to : ℕ) (row : Row)
    → Stands store_mark content table state → shelf < row_count table.wide → from ≤ to → to ≤ 51
    → (let new = reread_row content shelf from to row in
    StandsForNoOther store_mark (after (row_part shelf row from to) content) (with_row table shelf new) (with_row_on state shelf (registration_if shelf new)))

-- after a commit of a whole row the memory stands for the state with that row, where this is sound
abbrev pub AddedRowStands : Type 0
AddedRowStands =
    (store_mark : ℕ) (content : List ℕ) (table : Loaded) (state : Persistent) (shelf : ℕ) (row : Row)
    → Stands store_mark content table state → IsWholeRow table.wide shelf row
    → StandsIfSound store_mark (applied (row_part shelf row 0 51 ∷ kept_pieces shelf row) content) (with_row table shelf row) (with_row_on state shelf (registration_if shelf row))

-- a whole row with the next sequence number
abbrev pub InstalledRowStands : Type 0
InstalledRowStands =
    (store_mark : ℕ) (content : List ℕ) (table : Loaded) (state : Persistent) (shelf next : ℕ) (row : Row)
    → Stands store_mark content table state → IsWholeRow table.wide shelf row → next < 2 ^ 16
    → StandsIfSound store_mark (applied (row_part shelf row 0 51 ∷ sequence_part next ∷ kept_pieces shelf row) content)
    (record (with_row table shelf row) { next = next }) (record (with_row_on state shelf (registration_if shelf row)) { next_sequence = next })

-- the next sequence number, which never falls
abbrev pub NextSequenceStands : Type 0
NextSequenceStands =
    (store_mark : ℕ) (content : List ℕ) (table : Loaded) (state : Persistent) (next : ℕ)
    → Stands store_mark content table state → next < 2 ^ 16 → state.next_sequence ≤ next
    → Stands store_mark (after (sequence_part next) content) (record table { next = next }) (record state { next_sequence = next })

-- ---- what is read of files

-- bytes of a transparent file from an offset on
abbrev pub BytesAreRead : Type 0
BytesAreRead =
    (store_mark : ℕ) (content : List ℕ) (table : Loaded) (state : Persistent) (number offset count : ℕ) (node : Node) (file : File) (held : List ℕ)
    → Stands store_mark content table state → HasNode table number node → IsFileNumbered state number file → file.contents ≡ Bytes held → offset + count ≤ length held
    → bytes_at content (node.place + offset) count ≡ bytes_at held offset count

-- record `index + 1` of a linear fixed file
abbrev pub RecordIsRead : Type 0
RecordIsRead =
    (store_mark : ℕ) (content : List ℕ) (table : Loaded) (state : Persistent) (number index : ℕ) (node : Node) (file : File) (held : List (List ℕ))
    → Stands store_mark content table state → HasNode table number node → IsFileNumbered state number file → node.kind ≡ linear_kind → file.contents ≡ Records held → index < length held
    → bytes_at content (node.place + index * node.length) node.length ≡ slice_index_or held index []

-- record `index + 1` of a cyclic file
abbrev pub RingIsRead : Type 0
RingIsRead =
    (store_mark : ℕ) (content : List ℕ) (table : Loaded) (state : Persistent) (number index : ℕ) (node : Node) (file : File) (held : List (List ℕ))
    → Stands store_mark content table state → HasNode table number node → IsFileNumbered state number file → node.kind ≡ cyclic_kind → file.contents ≡ Records held → index < length held
    → bytes_at content (node.place + place_in_ring node.head (length held) index * node.length) node.length ≡ slice_index_or held index []

-- ---- what files hold

-- bytes of a transparent file from an offset on
abbrev pub WrittenBytesStand : Type 0
WrittenBytesStand =
    (store_mark : ℕ) (content : List ℕ) (table : Loaded) (state : Persistent) (number offset : ℕ) (node : Node) (bytes : List ℕ)
    → Stands store_mark content table state → HasNode table number node → node.kind ≡ transparent_kind → offset + length bytes ≤ node.size
    → Stands store_mark (after (record { place = node.place + offset; bytes = bytes }) content) table (with_bytes number offset bytes state)

-- record `index + 1` of a linear fixed file
abbrev pub WrittenRecordStands : Type 0
WrittenRecordStands =
    (store_mark : ℕ) (content : List ℕ) (table : Loaded) (state : Persistent) (number index : ℕ) (node : Node) (bytes : List ℕ)
    → Stands store_mark content table state → HasNode table number node → node.kind ≡ linear_kind → index < record_count node → length bytes ≡ node.length
    → Stands store_mark (after (record { place = node.place + index * node.length; bytes = bytes }) content) table (with_record number index bytes state)

-- the newest record of a cyclic file, and then its place as the head
abbrev pub NewestRecordStands : Type 0
NewestRecordStands =
    (store_mark : ℕ) (content : List ℕ) (table : Loaded) (state : Persistent) (number : ℕ) (node : Node) (bytes : List ℕ)
    → Stands store_mark content table state → HasNode table number node → node.kind ≡ cyclic_kind → length bytes ≡ node.length
    → (let head = oldest node.head (record_count node) in
    Stands store_mark (applied (record { place = node.place + head * node.length; bytes = bytes } ∷ node_part number (record node { head = head }) 15 16 ∷ []) content)
    (with_node table number (record node { head = head })) (with_newest_record number bytes state))

-- bytes of no file, whatever becomes of them
abbrev pub FreeBytesDontCount : Type 0
FreeBytesDontCount =
    (store_mark : ℕ) (content content' : List ℕ) (table : Loaded) (state : Persistent) (place count : ℕ)
    → Stands store_mark content table state → IsFreeRange table.wide state.files place count → Torn place count content content' → Stands store_mark content' table state

-- ---- which states are sound
