-- Pieces that are written, also again or in part: they change only what stands in their ranges.
use Rattle.std.specs.Prelude.{◌≡◌, ◌⊎◌, ℕ, ◌+◌, ◌≤◌, ◌<◌, List, [], ◌∷◌, length, slice_index, All}
use Rattle.store_form.specs.Pieces.{Piece, IsUsablePiece}

-- each is a piece that a commit may have in a store of so many bytes
abbrev pub AreUsable : List Piece → ℕ → Type 0
AreUsable pieces size = All (IsUsablePiece size) pieces

-- byte k stands in none of these pieces' ranges
abbrev pub Spare : List Piece → ℕ → Type 0
Spare [] k = Unit {0}
Spare (piece ∷ pieces) k = ((k < piece.place) ⊎ (piece.place + length piece.bytes ≤ k)) × Spare pieces k

-- the two differ only where the pieces stand
pub record Rewritten (pieces : List Piece) (old new : List ℕ) : Type 0 where
  pub same_length : length new ≡ length old
  pub spared : (k : ℕ) → Spare pieces k → slice_index new k ≡ slice_index old k
