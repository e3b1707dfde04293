-- How a journal spells the pieces of a commit, and which pieces such bytes spell. A number has two bytes, the upper
-- one first.
use Rattle.std.specs.Prelude.{ℕ, suc, zero, ◌+◌, Bool, ◌&&◌, ◌||◌, nat_lt, nat_le, if◌then◌else◌, List, [], ◌∷◌, ◌++◌, length, take, drop, Option, Some, None, option_map, option_and_then}
use Rattle.std.specs.Int.{w16, to_be_bytes, from_be_bytes}
use Rattle.std.specs.List.{flat_map, list_all}
use Rattle.store_form.specs.declared.store.TheConstants.{OWN_START, OWN_END}
use Rattle.store_form.specs.declared.writes.TheConstants.{MOST_PIECES, MOST_BYTES}
use Rattle.store_form.specs.Pieces.{Piece, byte_total}

-- a piece: its place, how many bytes it has, and the bytes
abbrev pub entry : Piece → List ℕ
entry piece = to_be_bytes w16 piece.place ++ to_be_bytes w16 (length piece.bytes) ++ piece.bytes

-- how many pieces there are, and then each
unfoldable pub entries : List Piece → List ℕ
entries pieces = length pieces ∷ flat_map entry pieces

-- the piece that these bytes begin with, and what stands after it; none where they end before the piece does
abbrev pub first_piece : List ℕ → Option (Piece × List ℕ)
first_piece (p0 ∷ p1 ∷ l0 ∷ l1 ∷ rest) =
    let count = from_be_bytes w16 (l0 ∷ l1 ∷ []) in
    if nat_le count (length rest) then Some (record { place = from_be_bytes w16 (p0 ∷ p1 ∷ []); bytes = take count rest }, drop count rest) else None
first_piece bytes = None

-- so many pieces, one after the other
abbrev pub first_pieces : ℕ → List ℕ → Option (List Piece)
first_pieces zero bytes = Some []
first_pieces (suc count) bytes = option_and_then (λ found. option_map (λ pieces. found.0 ∷ pieces) (first_pieces count found.1)) (first_piece bytes)

-- a commit may have a piece of so many bytes at this place, in a memory of this size: outside the store's own bytes
abbrev pub is_usable : ℕ → ℕ → ℕ → Bool
is_usable size place count = nat_lt 0 count && nat_le (place + count) size && (nat_le (place + count) OWN_START || nat_le OWN_END place)

-- a commit may have each of these pieces, and they have at most 640 bytes together
abbrev pub are_well_formed : ℕ → List Piece → Bool
are_well_formed size pieces = list_all (λ piece. is_usable size piece.place (length piece.bytes)) pieces && nat_le (byte_total pieces) MOST_BYTES

-- these pieces, where a commit may have them; else none
abbrev pub if_well_formed : ℕ → List Piece → Option (List Piece)
if_well_formed size pieces = if are_well_formed size pieces then Some pieces else None

-- the 1 to 4 pieces that these bytes spell, where they are well formed
unfoldable pub pieces_in : ℕ → List ℕ → Option (List Piece)
pieces_in size [] = None
pieces_in size (count ∷ bytes) = if nat_le 1 count && nat_le count MOST_PIECES then option_and_then (if_well_formed size) (first_pieces count bytes) else None
