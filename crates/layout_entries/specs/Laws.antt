-- What holds of the layout: an entry is read back from its bytes, and a commit of one piece changes one entry of the table.
use Rattle.std.specs.Prelude.{◌≡◌, ◌⊎◌, ℕ, ◌+◌, ◌≤◌, ◌<◌, ◌^◌, Bool, true, List, [], ◌∷◌, ◌++◌, length, drop, slice_set}
use Rattle.list_laws.specs.Patches.{patched}
use Rattle.store_form.specs.Pieces.{Piece, applied}
use Rattle.card_state.specs.declared.sizes.TheConstants.{NODE_WIDTH, PIN_WIDTH, ROW_WIDTH, NODE_COUNT, PIN_COUNT, ROW_COUNT, KEPT_WIDTH, KEPT_LIMIT}
use Rattle.card_state.specs.declared.entries.Node.{Node}
use Rattle.card_state.specs.declared.entries.PinSlot.{PinSlot}
use Rattle.card_state.specs.declared.entries.Row.{Row}
use Rattle.card_state.specs.Places.{memory_size, row_count, data_place, data_end}
use Rattle.card_state.specs.Decoding.{bytes_at, node_of, pin_of, row_of, is_wide, rows_when, table_of}
use Rattle.card_state.specs.Checks.{row_there}
use Rattle.card_state.specs.Ranges.{HasNodeRanges, HasPinRanges, HasRowRanges}
use Rattle.layout_entries.specs.Spelling.{node_spelled, pin_spelled, row_spelled, node_part, pin_part, row_part, kept_part, version_part, sequence_part}
use Rattle.layout_entries.specs.Fields.{node_fields, pin_fields, row_fields, AreWholeFields, merged_node, merged_pin, merged_row, kept_anew, reread_node, reread_pin, reread_row, node_there, pin_there, shown_node, shown_pin, shown_row}

-- ---- entries and their bytes

-- the entry of a file is read back from its bytes
abbrev pub NodesAreReadBack : Type 0
NodesAreReadBack = (node : Node) → HasNodeRanges node → node_of (node_spelled node) ≡ node

-- the slot of a PIN is read back from its bytes
abbrev pub PinsAreReadBack : Type 0
PinsAreReadBack = (pin : PinSlot) → HasPinRanges pin → pin_of (pin_spelled pin) ≡ pin

-- the kept bytes from the 33rd on stand apart, with any bytes after them
abbrev pub RowsAreReadBack : Type 0
RowsAreReadBack = (row : Row) (behind : List ℕ) → HasRowRanges row → row_of (row_spelled row) (drop KEPT_WIDTH row.kept ++ behind) ≡ row

-- ---- bytes and pieces

-- what stands beside a piece stays
abbrev pub KeepsBytesBeside : Type 0
KeepsBytesBeside =
    (content bytes : List ℕ) (place at count : ℕ) → place + length bytes ≤ length content → at + count ≤ length content
    → (at + count ≤ place) ⊎ (place + length bytes ≤ at) → bytes_at (patched place bytes content) at count ≡ bytes_at content at count

-- a piece that lies among so many bytes is put into them
abbrev pub ChangesBytesAround : Type 0
ChangesBytesAround =
    (content bytes : List ℕ) (at offset count : ℕ) → offset + length bytes ≤ count → at + count ≤ length content
    → bytes_at (patched (at + offset) bytes content) at count ≡ patched offset bytes (bytes_at content at count)

-- ---- entries and pieces

-- what the memory holds after a commit of one piece
abbrev pub after : Piece → List ℕ → List ℕ
after piece content = applied (piece ∷ []) content

-- of a file's entry the fields that are written
abbrev pub ChangesOneNode : Type 0
ChangesOneNode =
    (content : List ℕ) (number from to : ℕ) (node : Node) → length content ≡ memory_size → number < NODE_COUNT → AreWholeFields node_fields NODE_WIDTH from to → HasNodeRanges node
    → table_of (after (node_part number node from to) content)
    ≡ record (table_of content) { nodes = slice_set (table_of content).nodes number (shown_node (merged_node from to (node_there content number) node)) }

-- of a PIN slot the fields that are written
abbrev pub ChangesOnePin : Type 0
ChangesOnePin =
    (content : List ℕ) (slot from to : ℕ) (pin : PinSlot) → length content ≡ memory_size → slot < PIN_COUNT → AreWholeFields pin_fields PIN_WIDTH from to → HasPinRanges pin
    → table_of (after (pin_part slot pin from to) content)
    ≡ record (table_of content) { pins = slice_set (table_of content).pins slot (shown_pin (merged_pin from to (pin_there content slot) pin)) }

-- of a row the fields that are written, if it keeps no bytes apart or its kept bytes are not written
abbrev pub ChangesOneRow : Type 0
ChangesOneRow =
    (content : List ℕ) (shelf from to : ℕ) (row : Row) → length content ≡ memory_size → shelf < row_count (is_wide content) → AreWholeFields row_fields ROW_WIDTH from to → HasRowRanges row
    → (length row.kept ≤ KEPT_WIDTH) ⊎ (to ≤ 18)
    → table_of (after (row_part shelf row from to) content)
    ≡ record (table_of content) { rows = slice_set (table_of content).rows shelf (shown_row (merged_row from to (row_there content shelf) row)) }

-- of a row the fields that are written, the kept bytes among them, if more than 32 are written with those that stand apart
abbrev pub ChangesOneLongRow : Type 0
ChangesOneLongRow =
    (content : List ℕ) (shelf from : ℕ) (row : Row) → length content ≡ memory_size → is_wide content ≡ true → shelf < ROW_COUNT → AreWholeFields row_fields ROW_WIDTH from ROW_WIDTH → from ≤ 18 → HasRowRanges row
    → KEPT_WIDTH < length row.kept
    → table_of (applied (row_part shelf row from ROW_WIDTH ∷ kept_part shelf row ∷ []) content)
    ≡ record (table_of content) { rows = slice_set (table_of content).rows shelf (shown_row (merged_row from ROW_WIDTH (row_there content shelf) row)) }

-- of a row what it keeps, if that is at most 32 bytes: its length, so many bytes, and any number of those after them
abbrev pub ChangesKept : Type 0
ChangesKept =
    (content : List ℕ) (shelf to : ℕ) (row : Row) → length content ≡ memory_size → shelf < row_count (is_wide content) → length row.kept ≤ KEPT_WIDTH → 19 + length row.kept ≤ to → to ≤ ROW_WIDTH
    → table_of (after (row_part shelf row 18 to) content)
    ≡ record (table_of content) { rows = slice_set (table_of content).rows shelf (shown_row (record (row_there content shelf) { kept = row.kept })) }

-- of kept bytes that stand apart alone, what the row keeps from the 33rd byte on
abbrev pub ChangesKeptApart : Type 0
ChangesKeptApart =
    (content : List ℕ) (shelf : ℕ) (row : Row) → length content ≡ memory_size → is_wide content ≡ true → shelf < ROW_COUNT → length row.kept ≤ KEPT_LIMIT
    → table_of (after (kept_part shelf row) content)
    ≡ record (table_of content) {
      rows = slice_set (table_of content).rows shelf (shown_row (record (row_there content shelf) { kept = kept_anew (row_there content shelf).kept row.kept }));
    }

-- what a row keeps is changed: at most 32 bytes with their length, or those that stand apart, from the 33rd on
pub record ChangesWhatIsKept : Type 0 where
  pub whole : ChangesKept
  pub apart : ChangesKeptApart

-- of an entry any bytes, also some that cut a field: it is the entry that its bytes then spell
abbrev pub RereadsOneNode : Type 0
RereadsOneNode =
    (content : List ℕ) (number from to : ℕ) (node : Node) → length content ≡ memory_size → number < NODE_COUNT → from ≤ to → to ≤ NODE_WIDTH
    → table_of (after (node_part number node from to) content)
    ≡ record (table_of content) { nodes = slice_set (table_of content).nodes number (shown_node (reread_node content number from to node)) }

-- after a commit of any bytes of a slot the table has the slot that these spell, and else is as it was
abbrev pub RereadsOnePin : Type 0
RereadsOnePin =
    (content : List ℕ) (slot from to : ℕ) (pin : PinSlot) → length content ≡ memory_size → slot < PIN_COUNT → from ≤ to → to ≤ PIN_WIDTH → HasPinRanges pin
    → table_of (after (pin_part slot pin from to) content)
    ≡ record (table_of content) { pins = slice_set (table_of content).pins slot (shown_pin (reread_pin content slot from to pin)) }

-- after a commit of any bytes of a row the table has the row that these spell, and else is as it was
abbrev pub RereadsOneRow : Type 0
RereadsOneRow =
    (content : List ℕ) (shelf from to : ℕ) (row : Row) → length content ≡ memory_size → shelf < row_count (is_wide content) → from ≤ to → to ≤ ROW_WIDTH
    → table_of (after (row_part shelf row from to) content)
    ≡ record (table_of content) { rows = slice_set (table_of content).rows shelf (shown_row (reread_row content shelf from to row)) }

-- after a commit of the next sequence number the table has that, and else is as it was
abbrev pub ChangesSequence : Type 0
ChangesSequence =
    (content : List ℕ) (next : ℕ) → length content ≡ memory_size → next < 2 ^ 16 → table_of (after (sequence_part next) content) ≡ record (table_of content) { next = next }

-- of the version, whether the card is wide, and so which of its rows and of their kept bytes there are
abbrev pub ChangesVersion : Type 0
ChangesVersion =
    (content : List ℕ) (wide : Bool) → length content ≡ memory_size → table_of (after (version_part wide) content) ≡ record (table_of content) { rows = rows_when wide content; wide = wide }

-- bytes of the files are no entry's
abbrev pub KeepsTable : Type 0
KeepsTable =
    (content bytes : List ℕ) (place : ℕ) → length content ≡ memory_size → data_place ≤ place → place + length bytes ≤ data_end (is_wide content)
    → table_of (after (record { place = place; bytes = bytes }) content) ≡ table_of content

-- ---- rows
