-- Lemmas: pieces that are read back from the journal are such as a commit may have (`usable_from_area`). They stand in specs/
-- since Laws, and so the store's facts, rest on that.
use Rattle.std.specs.Prelude.{◌≡◌, ℕ, Bool, true, false, ◌&&◌, nat_le, if◌then◌else◌, List, [], ◌∷◌, length, Option, Some, None, option_and_then, All}
use Rattle.std.proofs.Common.{refl, sym, subst, arith}
use Rattle.std.proofs.lemmas.Bool.Decides.{nat_tests}
use Rattle.std.proofs.lemmas.List.Sums.{AllPass-from_list_all}
use Rattle.std.proofs.lemmas.List.Elements.{All-weaker}
use Rattle.std.proofs.lemmas.Bool.{and_parts}
use Rattle.store_form.specs.Pieces.{Piece, IsUsablePiece}
use Rattle.update_journal.specs.Entries.{is_usable, are_well_formed, if_well_formed, first_pieces, pieces_in}

-- whether a commit may have this piece, in a memory of this size
abbrev pub test : ℕ → Piece → Bool
test size piece = is_usable size piece.place (length piece.bytes)

-- a piece that is tested is one that a commit may have
pub usable_from_test : (size : ℕ) (piece : Piece) → test size piece ≡ true → IsUsablePiece size piece
usable_from_test size piece passed = record {
  some = grind (arith, nat_tests);
  range = record { inside = grind (arith, nat_tests); outside = λ some low. grind (arith, nat_tests) };
}

-- and so are all of them
pub usable_from_tests : (size : ℕ) (pieces : List Piece) → are_well_formed size pieces ≡ true → All (IsUsablePiece size) pieces
usable_from_tests size pieces passed =
    All-weaker (λ piece. test size piece ≡ true) (IsUsablePiece size) (usable_from_test size) pieces (AllPass-from_list_all (test size) pieces ((and_parts _ _ passed).0))

from_if : (size : ℕ) (found pieces : List Piece) (b : Bool) → b ≡ are_well_formed size found → (if b then Some found else None) ≡ Some pieces → All (IsUsablePiece size) pieces
from_if size found pieces true passed is =
    let same : found ≡ pieces = cc is in let P : List Piece → Type 0 = λ ps. All (IsUsablePiece size) ps in subst P same (usable_from_tests size found (sym passed))
from_if size found pieces false passed is = absurd (cc is)

from_found : (size : ℕ) (found : Option (List Piece)) (pieces : List Piece) → option_and_then (if_well_formed size) found ≡ Some pieces → All (IsUsablePiece size) pieces
from_found size None pieces is = absurd (cc is)
from_found size (Some found) pieces is = from_if size found pieces (are_well_formed size found) refl is

from_count : (size count : ℕ) (bytes : List ℕ) (pieces : List Piece) (b : Bool) → (if b then option_and_then (if_well_formed size) (first_pieces count bytes) else None) ≡ Some pieces → All (IsUsablePiece size) pieces
from_count size count bytes pieces true is = from_found size (first_pieces count bytes) pieces is
from_count size count bytes pieces false is = absurd (cc is)

-- what an entry area spells are pieces that a commit may have
pub usable_from_area : (size : ℕ) (area : List ℕ) (pieces : List Piece) → pieces_in size area ≡ Some pieces → All (IsUsablePiece size) pieces
unfolding pieces_in
usable_from_area size [] pieces is = absurd (cc is)
usable_from_area size (count ∷ bytes) pieces is = from_count size count bytes pieces (nat_le 1 count && nat_le count 4) is
