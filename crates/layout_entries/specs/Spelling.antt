-- The bytes of each entry of the layout, in the order in which they stand, and those of an entry that is not there.
use Rattle.std.specs.Prelude.{ℕ, ◌+◌, Bool, List, [], ◌∷◌, ◌++◌, length, take, drop, replicate, slice_range}
use Rattle.std.specs.Int.{from_bool}
use Rattle.store_form.specs.Pieces.{Piece}
use Rattle.card_state.specs.declared.sizes.TheConstants.{TEXT_LIMIT, KEPT_WIDTH}
use Rattle.card_state.specs.declared.entries.Node.{Node}
use Rattle.card_state.specs.declared.entries.PinSlot.{PinSlot}
use Rattle.card_state.specs.declared.entries.Row.{Row}
use Rattle.card_state.specs.Places.{pin_place, row_place, kept_place, node_place, version_place, sequence_place, version_of}
use Rattle.card_state.specs.Numbers.{two_bytes}

-- the first `width` of these bytes, filled up with 00
abbrev pub padded : ℕ → List ℕ → List ℕ
padded width bytes = take width (bytes ++ replicate width 0)

-- 16 bytes
unfoldable pub node_spelled : Node → List ℕ
node_spelled node =
    from_bool node.used ∷ node.kind ∷ [] ++ two_bytes node.id.0 ++ node.parent ∷ node.short ∷ node.life ∷ node.rule ∷ []
    ++ two_bytes node.arr.0 ++ two_bytes node.place ++ two_bytes node.size ++ node.length ∷ node.head ∷ []

-- 20 bytes
unfoldable pub pin_spelled : PinSlot → List ℕ
pin_spelled pin = pin.key ∷ from_bool pin.enabled ∷ pin.tries ∷ pin.unblock_tries ∷ [] ++ pin.value.0 ++ pin.unblock.0

-- 51 bytes; of the kept bytes the first 32
unfoldable pub row_spelled : Row → List ℕ
row_spelled row =
    from_bool row.used ∷ row.kind ∷ row.priority ∷ [] ++ two_bytes row.sequence ++ two_bytes row.events
    ++ length row.text ∷ [] ++ padded TEXT_LIMIT row.text ++ length row.kept ∷ [] ++ padded KEPT_WIDTH row.kept

-- the bytes of an entry that stands at this place, from one of them up to but without another
abbrev pub part_of : ℕ → List ℕ → ℕ → ℕ → Piece
part_of place spelled from to = record { place = place + from; bytes = slice_range spelled from to }

-- a range of the bytes of a file's entry, as a piece of a commit
abbrev pub node_part : ℕ → Node → ℕ → ℕ → Piece
node_part number node from to = part_of (node_place number) (node_spelled node) from to

-- a range of the bytes of a PIN slot, as a piece of a commit
abbrev pub pin_part : ℕ → PinSlot → ℕ → ℕ → Piece
pin_part slot pin from to = part_of (pin_place slot) (pin_spelled pin) from to

-- a range of the bytes of a row, as a piece of a commit
abbrev pub row_part : ℕ → Row → ℕ → ℕ → Piece
row_part shelf row from to = part_of (row_place shelf) (row_spelled row) from to

-- the kept bytes from the 33rd on, which stand apart from the row
abbrev pub kept_part : ℕ → Row → Piece
kept_part shelf row = record { place = kept_place shelf; bytes = drop KEPT_WIDTH row.kept }

-- the byte of the version, of a wide card or of a narrow one
abbrev pub version_part : Bool → Piece
version_part wide = record { place = version_place; bytes = version_of wide ∷ [] }

-- the next sequence number, as a piece of a commit
abbrev pub sequence_part : ℕ → Piece
sequence_part next = record { place = sequence_place; bytes = two_bytes next }
