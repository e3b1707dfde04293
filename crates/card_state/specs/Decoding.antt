-- The entries that the bytes of a card's memory decode to.
use Rattle.std.specs.Prelude.{ℕ, ◌+◌, ◌==◌, Bool, nat_lt, if◌then◌else◌, List, [], ◌++◌, take, slice_index, slice_range, map}
use Rattle.std.specs.Int.{w16, from_be_bytes}
use Rattle.std.specs.List.{range_with_len}
use Rattle.card_state.specs.declared.sizes.TheConstants.{NODE_WIDTH, PIN_WIDTH, ROW_WIDTH, NODE_COUNT, PIN_COUNT, ROW_COUNT, TEXT_LIMIT, KEPT_WIDTH}
use Rattle.card_state.specs.declared.places.TheConstants.{WIDE_VERSION}
use Rattle.card_state.specs.declared.entries.Node.{Node}
use Rattle.card_state.specs.declared.entries.PinSlot.{PinSlot}
use Rattle.card_state.specs.declared.entries.Row.{Row}
use Rattle.card_state.specs.declared.entries.Loaded.{Loaded}
use Rattle.card_state.specs.Blank.{unused_node, absent_pin, unused_row}
use Rattle.card_state.specs.Places.{version_place, sequence_place, pin_place, row_place, kept_place, node_place, row_count}

-- the number of two bytes that stands here
abbrev pub number_at : List ℕ → ℕ → ℕ
number_at bytes at = from_be_bytes w16 (slice_range bytes at (at + 2))

-- so many bytes from a place on
abbrev pub bytes_at : List ℕ → ℕ → ℕ → List ℕ
bytes_at content place count = slice_range content place (place + count)

-- a file's entry of 16 bytes
unfoldable pub node_of : List ℕ → Node
node_of bytes = record {
  used = slice_index bytes 0 == 1;
  kind = slice_index bytes 1;
  id = record { 0 = number_at bytes 2 };
  parent = slice_index bytes 4;
  short = slice_index bytes 5;
  life = slice_index bytes 6;
  rule = slice_index bytes 7;
  arr = record { 0 = number_at bytes 8 };
  place = number_at bytes 10;
  size = number_at bytes 12;
  length = slice_index bytes 14;
  head = slice_index bytes 15;
}

-- a PIN slot of 20 bytes
unfoldable pub pin_of : List ℕ → PinSlot
pin_of bytes = record {
  key = slice_index bytes 0;
  enabled = slice_index bytes 1 == 1;
  tries = slice_index bytes 2;
  unblock_tries = slice_index bytes 3;
  value = record { 0 = slice_range bytes 4 12 };
  unblock = record { 0 = slice_range bytes 12 PIN_WIDTH };
}

-- a row of 51 bytes, and the 32 bytes for what it keeps beyond 32
unfoldable pub row_of : List ℕ → List ℕ → Row
row_of bytes more = record {
  used = slice_index bytes 0 == 1;
  kind = slice_index bytes 1;
  priority = slice_index bytes 2;
  sequence = number_at bytes 3;
  events = number_at bytes 5;
  text = take (slice_index bytes 7) (slice_range bytes 8 (8 + TEXT_LIMIT));
  kept = take (slice_index bytes 18) (slice_range bytes 19 ROW_WIDTH ++ more);
}

-- the 16 bytes of the entry of a file
abbrev pub node_bytes : List ℕ → ℕ → List ℕ
node_bytes content number = bytes_at content (node_place number) NODE_WIDTH

-- the 20 bytes of a PIN slot
abbrev pub pin_bytes : List ℕ → ℕ → List ℕ
pin_bytes content slot = bytes_at content (pin_place slot) PIN_WIDTH

-- the 51 bytes of the row of a shelf
abbrev pub row_bytes : List ℕ → ℕ → List ℕ
row_bytes content shelf = bytes_at content (row_place shelf) ROW_WIDTH

-- the card has version 2 of the layout
abbrev pub is_wide : List ℕ → Bool
is_wide content = slice_index content version_place == WIDE_VERSION

-- where a wide card holds what a row keeps beyond 32 bytes
abbrev pub kept_bytes : List ℕ → ℕ → List ℕ
kept_bytes content shelf = bytes_at content (kept_place shelf) KEPT_WIDTH

-- what this card keeps apart from a row, if it is wide
abbrev pub bytes_apart : List ℕ → ℕ → List ℕ
bytes_apart content shelf = if is_wide content then kept_bytes content shelf else []

-- the entry in these bytes; where it is not used, the unused one
abbrev pub node_in : List ℕ → Node
node_in bytes = let node = node_of bytes in if node.used then node else unused_node

-- the PIN slot in these bytes; where it has no key, the slot of no PIN
abbrev pub pin_in : List ℕ → PinSlot
pin_in bytes = let pin = pin_of bytes in if pin.key == 0 then absent_pin else pin

-- the row in these bytes and in those kept apart; where it is not used, the unused one
abbrev pub row_in : List ℕ → List ℕ → Row
row_in bytes more = let row = row_of bytes more in if row.used then row else unused_row

-- the entry of the file of this number
abbrev pub node_at : List ℕ → ℕ → Node
node_at content number = node_in (node_bytes content number)

-- the PIN slot of this number, from 0 to 2
abbrev pub pin_at : List ℕ → ℕ → PinSlot
pin_at content slot = pin_in (pin_bytes content slot)

-- a card that is not wide has no row on a shelf above 15, and keeps no bytes apart from a row
abbrev pub row_when : Bool → ℕ → List ℕ → List ℕ → Row
row_when wide shelf bytes more = if nat_lt shelf (row_count wide) then row_in bytes (if wide then more else []) else unused_row

-- the row of this shelf
abbrev pub row_at : List ℕ → ℕ → Row
row_at content shelf = row_when (is_wide content) shelf (row_bytes content shelf) (kept_bytes content shelf)

-- the rows of all shelves that these bytes spell, on a wide card or on a narrow one
abbrev pub rows_when : Bool → List ℕ → List Row
rows_when wide content = map (λ shelf. row_when wide shelf (row_bytes content shelf) (kept_bytes content shelf)) (range_with_len 0 ROW_COUNT)

-- the table of all entries
unfoldable pub table_of : List ℕ → Loaded
table_of content = record {
  nodes = map (node_at content) (range_with_len 0 NODE_COUNT);
  pins = map (pin_at content) (range_with_len 0 PIN_COUNT);
  rows = map (row_at content) (range_with_len 0 ROW_COUNT);
  next = number_at content sequence_place;
  wide = is_wide content;
}
