-- What a commit changes of a card's persistent state: one file, one PIN, one row or one number, and nothing else; and of the
-- table of its entries.
use Rattle.std.specs.Prelude.{◌≡◌, ◌⊎◌, ℕ, ◌+◌, ◌*◌, ◌-◌, ◌%◌, ◌≤◌, ◌<◌, ◌^◌, true, nat_lt, if◌then◌else◌, List, [], ◌∷◌, length, take, slice_index_or, slice_set}
use Rattle.list_laws.specs.Patches.{patched, Torn}
use Rattle.store_form.specs.Pieces.{Piece, applied}
use Rattle.card_state.specs.Standing.{state_in}
use Rattle.card_state.specs.declared.entries.Node.{Node}
use Rattle.card_state.specs.declared.entries.PinSlot.{PinSlot}
use Rattle.card_state.specs.declared.entries.Row.{Row}
use Rattle.card_state.specs.Places.{row_count, kept_limit}
use Rattle.card_state.specs.Checks.{row_there}
use Rattle.card_state.specs.Decoding.{bytes_at, is_wide, table_of}
use Rattle.card_state.specs.Persistent.{Bytes, Records}
use Rattle.card_state.specs.States.{contents_of, pin_state}
use Rattle.card_state.specs.Sections.{with_contents}
use Rattle.card_state.specs.Ranges.{HasNodeRanges, HasPinRanges, HasRowRanges}
use Rattle.card_state.specs.Used.{HasNode, HasPin, HasRow, HasOwnKeys, file_if, pin_if, registration_if, LiesAmongFiles}
use Rattle.card_state.specs.Changing.{with_file_at, with_row_on, with_pin_in, with_pin_for}
use Rattle.layout_entries.specs.Spelling.{node_part, pin_part, row_part, kept_part, sequence_part}
use Rattle.layout_entries.specs.Fields.{node_fields, pin_fields, row_fields, AreWholeFields, merged_node, merged_pin, merged_row, kept_anew, reread_node, reread_pin, reread_row}
use Rattle.layout_entries.specs.Laws.{after}
use Rattle.layout_laws.specs.Cards.{IsCard, Holds, LiesWhere, IsFreeRange}
use Rattle.layout_laws.specs.Changes.{with_node, with_slot, with_row}

-- ---- files

-- Some fields of a file's entry, those of `part`: the file is that of the entry with these fields, or none where it is not used.
abbrev pub ChangesFile : Type 0
ChangesFile =
    (content : List ℕ) (number from to : ℕ) (old part new : Node) → IsCard content → HasNode (table_of content) number old → AreWholeFields node_fields 16 from to → HasNodeRanges part
    → merged_node from to old part ≡ new → LiesWhere old new ⊎ LiesAmongFiles (is_wide content) new
    → Holds (after (node_part number part from to) content) (with_node (table_of content) number new) (with_file_at (state_in content) number (file_if content number new))

-- a whole entry
abbrev pub AddsFile : Type 0
AddsFile =
    (content : List ℕ) (number : ℕ) (node : Node) → IsCard content → number < 128 → HasNodeRanges node → LiesAmongFiles (is_wide content) node
    → Holds (after (node_part number node 0 16) content) (with_node (table_of content) number node) (with_file_at (state_in content) number (file_if content number node))

-- any bytes of an entry, also some that cut a field: the file is that of the entry which they then spell
abbrev pub RereadsFile : Type 0
RereadsFile =
    (content : List ℕ) (number from to : ℕ) (node : Node) → IsCard content → number < 128 → from ≤ to → to ≤ 16 → LiesAmongFiles (is_wide content) (reread_node content number from to node)
    → (let new = reread_node content number from to node in
    Holds (after (node_part number node from to) content) (with_node (table_of content) number new) (with_file_at (state_in content) number (file_if content number new)))

-- ---- PINs

-- some fields of a PIN slot
abbrev pub ChangesPin : Type 0
ChangesPin =
    (content : List ℕ) (slot from to : ℕ) (old new : PinSlot) → IsCard content → HasPin (table_of content) slot old → AreWholeFields pin_fields 20 from to → HasPinRanges new
    → merged_pin from to old new ≡ new → new.key ≡ old.key
    → Holds (after (pin_part slot new from to) content) (with_slot (table_of content) slot new) (with_pin_for (state_in content) (pin_state new))

-- a whole slot: its PIN, or none
abbrev pub AddsPin : Type 0
AddsPin =
    (content : List ℕ) (slot : ℕ) (pin : PinSlot) → IsCard content → HasOwnKeys (table_of content) → slot < 3 → HasPinRanges pin
    → Holds (after (pin_part slot pin 0 20) content) (with_slot (table_of content) slot pin) (with_pin_in (state_in content) slot (pin_if pin))

-- any bytes of a slot with a PIN, whose key stays
abbrev pub RereadsPin : Type 0
RereadsPin =
    (content : List ℕ) (slot from to : ℕ) (old pin : PinSlot) → IsCard content → HasPin (table_of content) slot old → from ≤ to → to ≤ 20 → HasPinRanges pin
    → (reread_pin content slot from to pin).key ≡ old.key
    → (let new = reread_pin content slot from to pin in
    Holds (after (pin_part slot pin from to) content) (with_slot (table_of content) slot new) (with_pin_for (state_in content) (pin_state new)))

-- ---- rows

-- Some fields of a row, those of `part`, which keeps no bytes apart, or without the kept bytes.
abbrev pub ChangesRow : Type 0
ChangesRow =
    (content : List ℕ) (shelf from to : ℕ) (old part new : Row) → IsCard content → HasRow (table_of content) shelf old → AreWholeFields row_fields 51 from to → HasRowRanges part
    → merged_row from to old part ≡ new → (length part.kept ≤ 32) ⊎ (to ≤ 18)
    → Holds (after (row_part shelf part from to) content) (with_row (table_of content) shelf new) (with_row_on (state_in content) shelf (registration_if shelf new))

-- any bytes of a row, also some that cut a field
abbrev pub RereadsRow : Type 0
RereadsRow =
    (content : List ℕ) (shelf from to : ℕ) (row : Row) → IsCard content → shelf < row_count (is_wide content) → from ≤ to → to ≤ 51
    → (let new = reread_row content shelf from to row in
    Holds (after (row_part shelf row from to) content) (with_row (table_of content) shelf new) (with_row_on (state_in content) shelf (registration_if shelf new)))

-- at most 32 bytes that a row keeps, with their length, and any number of the bytes after them
abbrev pub ChangesKeptBytes : Type 0
ChangesKeptBytes =
    (content : List ℕ) (shelf to : ℕ) (row : Row) → IsCard content → shelf < row_count (is_wide content) → length row.kept ≤ 32 → 19 + length row.kept ≤ to → to ≤ 51
    → (let new = record (row_there content shelf) { kept = row.kept } in
    Holds (after (row_part shelf row 18 to) content) (with_row (table_of content) shelf new) (with_row_on (state_in content) shelf (registration_if shelf new)))

-- the kept bytes that stand apart alone
abbrev pub ChangesBytesApart : Type 0
ChangesBytesApart =
    (content : List ℕ) (shelf : ℕ) (row : Row) → IsCard content → is_wide content ≡ true → shelf < 32 → length row.kept ≤ 64
    → (let new = record (row_there content shelf) { kept = kept_anew (row_there content shelf).kept row.kept } in
    Holds (after (kept_part shelf row) content) (with_row (table_of content) shelf new) (with_row_on (state_in content) shelf (registration_if shelf new)))

-- the pieces of a whole row: its bytes, and the kept bytes that stand apart if there are such
abbrev pub kept_pieces : ℕ → Row → List Piece
kept_pieces shelf row = if nat_lt 32 (length row.kept) then kept_part shelf row ∷ [] else []

-- a commit of a whole row, with what it keeps, adds it to table and state
abbrev pub AddsRow : Type 0
AddsRow =
    (content : List ℕ) (shelf : ℕ) (row : Row) → IsCard content → shelf < row_count (is_wide content) → HasRowRanges row → length row.kept ≤ kept_limit (is_wide content)
    → Holds (applied (row_part shelf row 0 51 ∷ kept_pieces shelf row) content) (with_row (table_of content) shelf row) (with_row_on (state_in content) shelf (registration_if shelf row))

-- a whole row with the next sequence number
abbrev pub InstallsRow : Type 0
InstallsRow =
    (content : List ℕ) (shelf next : ℕ) (row : Row) → IsCard content → shelf < row_count (is_wide content) → HasRowRanges row → length row.kept ≤ kept_limit (is_wide content) → next < 2 ^ 16
    → Holds (applied (row_part shelf row 0 51 ∷ sequence_part next ∷ kept_pieces shelf row) content) (record (with_row (table_of content) shelf row) { next = next })
    (record (with_row_on (state_in content) shelf (registration_if shelf row)) { next_sequence = next })

-- a commit of the next sequence number changes that of table and state
abbrev pub ChangesNextSequence : Type 0
ChangesNextSequence =
    (content : List ℕ) (next : ℕ) → IsCard content → next < 2 ^ 16
    → Holds (after (sequence_part next) content) (record (table_of content) { next = next }) (record (state_in content) { next_sequence = next })

-- ---- what is read of files

-- bytes of a transparent file from an offset on
abbrev pub ReadsBytes : Type 0
ReadsBytes =
    (content : List ℕ) (number offset count : ℕ) (node : Node) (held : List ℕ) → IsCard content → HasNode (table_of content) number node → contents_of content node ≡ Bytes held → offset + count ≤ length held
    → bytes_at content (node.place + offset) count ≡ bytes_at held offset count

-- where record `index + 1` lies among so many: after the head, and round
abbrev pub place_in_ring : ℕ → ℕ → ℕ → ℕ
place_in_ring head count index = (head + index) % count

-- record `index + 1` of a file with records
abbrev pub ReadsRecord : Type 0
ReadsRecord =
    (content : List ℕ) (number index : ℕ) (node : Node) (held : List (List ℕ))
    → IsCard content → HasNode (table_of content) number node → contents_of content node ≡ Records held → node.head < length held → index < length held
    → bytes_at content (node.place + place_in_ring node.head (length held) index * node.length) node.length ≡ slice_index_or held index []

-- ---- what files hold

-- bytes of a transparent file from an offset on
abbrev pub WritesBytes : Type 0
WritesBytes =
    (content : List ℕ) (number offset : ℕ) (node : Node) (bytes old : List ℕ)
    → IsCard content → HasNode (table_of content) number node → contents_of content node ≡ Bytes old → offset + length bytes ≤ length old
    → Holds (after (record { place = node.place + offset; bytes = bytes }) content) (table_of content) (with_contents (state_in content) number (Bytes (patched offset bytes old)))

-- record `index + 1` of a linear fixed file
abbrev pub WritesRecord : Type 0
WritesRecord =
    (content : List ℕ) (number index : ℕ) (node : Node) (bytes : List ℕ) (old : List (List ℕ))
    → IsCard content → HasNode (table_of content) number node → node.head ≡ 0 → contents_of content node ≡ Records old
    → index < length old → length bytes ≡ node.length
    → Holds (after (record { place = node.place + index * node.length; bytes = bytes }) content) (table_of content) (with_contents (state_in content) number (Records (slice_set old index bytes)))

-- the place of the oldest record of a ring of so many, which takes the newest one
abbrev pub oldest : ℕ → ℕ → ℕ
oldest head count = (head + count - 1) % count

-- the newest record of a cyclic file, and then its place as the head: it comes before the others, of which the oldest goes
abbrev pub WritesNewestRecord : Type 0
WritesNewestRecord =
    (content : List ℕ) (number : ℕ) (node : Node) (bytes : List ℕ) (old : List (List ℕ))
    → IsCard content → HasNode (table_of content) number node → node.head < length old → contents_of content node ≡ Records old
    → length bytes ≡ node.length
    → (let head = oldest node.head (length old) in
    Holds (applied (record { place = node.place + head * node.length; bytes = bytes } ∷ node_part number (record node { head = head }) 15 16 ∷ []) content)
    (with_node (table_of content) number (record node { head = head })) (with_contents (state_in content) number (Records (bytes ∷ take (length old - 1) old))))

-- bytes of no file, whatever becomes of them
abbrev pub KeepsState : Type 0
KeepsState =
    (content content' : List ℕ) (place count : ℕ) → IsCard content → IsFreeRange (is_wide content) (state_in content).files place count → Torn place count content content'
    → Holds content' (table_of content) (state_in content)
