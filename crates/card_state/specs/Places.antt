-- Where everything stands in the memory of a card, by its number.
use Rattle.std.specs.Prelude.{ℕ, ◌+◌, ◌*◌, ◌-◌, Bool, nat_lt, if◌then◌else◌}
use Rattle.card_state.specs.declared.places.TheConstants.{MEMORY_SIZE, VERSION, NARROW_VERSION, WIDE_VERSION, STORE_MARK, SEQUENCE, PINS, ROWS, NODES, DATA, UPPER_ROWS, KEPT_APART}
use Rattle.card_state.specs.declared.sizes.TheConstants.{PIN_WIDTH, ROW_STRIDE, NODE_WIDTH, KEPT_WIDTH, KEPT_LIMIT, LOWER_ROW_COUNT, ROW_COUNT}

-- the memory has 65,536 bytes
abbrev pub memory_size : ℕ
memory_size = MEMORY_SIZE

-- where the byte of the version stands: 4, after the four bytes by which a card is known
abbrev pub version_place : ℕ
version_place = VERSION

-- the version of the layout: 2 of a wide card, 1 of a narrow one
abbrev pub version_of : Bool → ℕ
version_of wide = if wide then WIDE_VERSION else NARROW_VERSION

-- where the byte of the kind of store stands: 5
abbrev pub store_mark_place : ℕ
store_mark_place = STORE_MARK

-- where the two bytes of the next sequence number stand: 6
abbrev pub sequence_place : ℕ
sequence_place = SEQUENCE

-- the slots of the PINs with the keys 01, 81 and 0A, in this order
abbrev pub pin_place : ℕ → ℕ
pin_place slot = PINS + PIN_WIDTH * slot

-- the rows; those of the shelves above 15 stand after the files of a wide card
abbrev pub row_place : ℕ → ℕ
row_place shelf = if nat_lt shelf LOWER_ROW_COUNT then ROWS + ROW_STRIDE * shelf else UPPER_ROWS + ROW_STRIDE * (shelf - LOWER_ROW_COUNT)

-- the kept bytes of a row from the 33rd on
abbrev pub kept_place : ℕ → ℕ
kept_place shelf = KEPT_APART + KEPT_WIDTH * shelf

-- where the entry of the file of this number stands
abbrev pub node_place : ℕ → ℕ
node_place number = NODES + NODE_WIDTH * number

-- where the bytes of the files begin: 3,968
abbrev pub data_place : ℕ
data_place = DATA

-- where the bytes of the files end: at 63,488 on a wide card, and at the end of the memory on a narrow one
abbrev pub data_end : Bool → ℕ
data_end wide = if wide then UPPER_ROWS else MEMORY_SIZE

-- how many rows a card has: 32 where it is wide, else 16
abbrev pub row_count : Bool → ℕ
row_count wide = if wide then ROW_COUNT else LOWER_ROW_COUNT

-- how many bytes a row may keep: 64 on a wide card, else 32
abbrev pub kept_limit : Bool → ℕ
kept_limit wide = if wide then KEPT_LIMIT else KEPT_WIDTH
