-- Pieces of bytes to be written, and what a store holds once they are.
use Rattle.std.specs.Prelude.{ℕ, ◌+◌, ◌≤◌, ◌<◌, ◌^◌, List, [], ◌∷◌, length, sum_by, All}
use Rattle.list_laws.specs.Patches.{patched}
use Rattle.store_form.specs.declared.store.TheConstants.{OWN_START, OWN_END}
use Rattle.store_form.specs.declared.writes.TheConstants.{MOST_PIECES, MOST_BYTES}

-- bytes, and the place of the first of them
pub record Piece : Type 0 where
  pub place : ℕ
  pub bytes : List ℕ

-- how many bytes these pieces have together
abbrev pub byte_total : List Piece → ℕ
byte_total pieces = sum_by (λ piece. length piece.bytes) pieces

-- the image with these pieces written into it, one after the other
abbrev pub applied : List Piece → List ℕ → List ℕ
applied [] image = image
applied (piece ∷ pieces) image = applied pieces (patched piece.place piece.bytes image)

-- A caller may name this range: it lies inside a store of this size and has none of the store's own bytes, 64 to 831.
pub record IsUsable (size at count : ℕ) : Type 0 where
  pub inside : at + count ≤ size
  pub outside : 0 < count → at < OWN_END → at + count ≤ OWN_START

-- a piece of a commit: at least one byte, in a range that a caller may name
pub record IsUsablePiece (size : ℕ) (piece : Piece) : Type 0 where
  pub some : 0 < length piece.bytes
  pub range : IsUsable size piece.place (length piece.bytes)

-- the bounds of every list of writes
pub record IsWithinBounds (pieces : List Piece) : Type 0 where
  pub count : length pieces ≤ MOST_PIECES
  pub total : byte_total pieces ≤ MOST_BYTES
  pub places : All (λ piece. piece.place < 2 ^ 16) pieces
