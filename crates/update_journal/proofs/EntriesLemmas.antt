-- Entries that are spelled one after the other, and read back.
use Rattle.std.proofs.Common.{zero, suc, zero-add, ◌≡◌, ℕ, ◌+◌, ◌*◌, ◌≤◌, ◌<◌, ◌^◌, List, [], ◌∷◌, ◌++◌, length, take, Option, Some, None, refl, sym, ◌∙◌, ap, arith, append_assoc, length-append, option_map, option_and_then, All, slice_get, nat_le, ◌&&◌, true, flat_map, append-nil, take_at, drop_at, le-leb}
use Rattle.std.specs.Int.{w16, to_be_bytes}
use Rattle.std.proofs.lemmas.Nat.{from_be_bytes-to_be_bytes_2}
use Rattle.std.proofs.lemmas.Option.{same_Some}
use Rattle.std.proofs.lemmas.List.Elements.{All-head, All-tail}
use Rattle.std.proofs.lemmas.List.Sums.{sum_by-append}
use Rattle.std.proofs.lemmas.Bool.Decides.{nat_tests}
use Rattle.store_form.specs.Pieces.{Piece, byte_total, IsUsablePiece, IsWithinBounds}
use Rattle.update_journal.specs.Entries.{entry, entries, first_piece, first_pieces, pieces_in}
use Rattle.update_journal.proofs.WellFormedLemmas.{tests_from_usable}

pub byte_total-cons : (piece : Piece) (pieces : List Piece) → byte_total (piece ∷ pieces) ≡ length piece.bytes + byte_total pieces
byte_total-cons piece pieces =
    sum_by-append (λ (p : Piece). length p.bytes) (piece ∷ []) pieces ∙ ap (λ (n : ℕ). n + byte_total pieces) (zero-add (length piece.bytes))

pub length-entry : (piece : Piece) → length (entry piece) ≡ 4 + length piece.bytes
length-entry piece = omega (arith, length-append (to_be_bytes w16 piece.place ++ to_be_bytes w16 (length piece.bytes)) piece.bytes)

pub length-flat_map-entry : (pieces : List Piece) → length (flat_map entry pieces) ≡ 4 * length pieces + byte_total pieces
length-flat_map-entry [] = refl
length-flat_map-entry (piece ∷ pieces) =
    omega (arith, length-append (entry piece) (flat_map entry pieces), length-entry piece, length-flat_map-entry pieces, byte_total-cons piece pieces)

pub length-entries : (pieces : List Piece) → IsWithinBounds pieces → length (entries pieces) ≤ 657
unfolding entries
length-entries pieces bounds = omega (arith, length-flat_map-entry pieces, bounds.count, bounds.total)

-- there is a count
pub entries_some : (pieces : List Piece) → 0 < length (entries pieces)
unfolding entries
entries_some pieces = omega arith

-- the entries of the pieces up to one, and of that one
pub next_entry : (pieces : List Piece) (at : ℕ) (piece : Piece) → slice_get pieces at ≡ Some piece
    → (flat_map entry (take (at + 1) pieces) ≡ flat_map entry (take at pieces) ++ entry piece)
    × (length (flat_map entry (take at pieces)) + 4 + length piece.bytes ≤ length (flat_map entry pieces)) × (length piece.bytes ≤ byte_total pieces)
next_entry [] at piece there = absurd (let none : None ≡ Some piece = there in cc)
next_entry (first ∷ pieces) zero piece there =
    let same : first ≡ piece = same_Some first piece there in (
      ap (λ (p : Piece). entry p ++ []) same ∙ append-nil (entry piece),
      omega (arith, ap (λ (p : Piece). length (entry p)) same, length-entry piece, length-append (entry first) (flat_map entry pieces)),
      omega (arith, ap (λ (p : Piece). length p.bytes) same, byte_total-cons first pieces),
    )
next_entry (first ∷ pieces) (suc at) piece there =
    let later = next_entry pieces at piece there in
    let one_on : suc at + 1 ≡ suc (at + 1) = omega arith in (
      ap (λ (n : ℕ). flat_map entry (take n (first ∷ pieces))) one_on ∙ ap (λ (l : List ℕ). entry first ++ l) later.0
          ∙ sym (append_assoc (entry first) (flat_map entry (take at pieces)) (entry piece)),
      omega (arith, later.1, length-append (entry first) (flat_map entry pieces), length-append (entry first) (flat_map entry (take at pieces))),
      omega (arith, later.2, byte_total-cons first pieces),
    )

first_entry : (piece : Piece) (more : List ℕ) → piece.place < 2 ^ 16 → length piece.bytes < 2 ^ 16 → first_piece (entry piece ++ more) ≡ Some (piece, more)
first_entry piece more low short =
    let whole : nat_le (length piece.bytes) (length (piece.bytes ++ more)) ≡ true = le-leb (length piece.bytes) (length (piece.bytes ++ more)) (omega (arith, length-append piece.bytes more)) in
    rw (from_be_bytes-to_be_bytes_2 piece.place low, from_be_bytes-to_be_bytes_2 (length piece.bytes) short, whole, take_at piece.bytes more (length piece.bytes) refl, drop_at piece.bytes more (length piece.bytes) refl) refl

entries_back : (pieces : List Piece) (more : List ℕ) → All (λ piece. piece.place < 2 ^ 16) pieces → byte_total pieces ≤ 640 → first_pieces (length pieces) (flat_map entry pieces ++ more) ≡ Some pieces
entries_back [] more places few = refl
entries_back (piece ∷ pieces) more places few =
    let total = byte_total-cons piece pieces in
    let first = first_entry piece (flat_map entry pieces ++ more) (All-head (λ piece. piece.place < 2 ^ 16) piece pieces places) (omega (arith, total)) in
    let rest = entries_back pieces more (All-tail (λ piece. piece.place < 2 ^ 16) piece pieces places) (omega (arith, total)) in
    ap (λ (l : List ℕ). first_pieces (length (piece ∷ pieces)) l) (append_assoc (entry piece) (flat_map entry pieces) more)
    ∙ ap (λ (o : Option (Piece × List ℕ)). option_and_then (λ found. option_map (λ ps. found.0 ∷ ps) (first_pieces (length pieces) found.1)) o) first
    ∙ ap (λ (o : Option (List Piece)). option_map (λ ps. piece ∷ ps) o) rest

-- what is spelled is read back, whatever stands after it
pub pieces_back : (size : ℕ) (pieces : List Piece) (more : List ℕ) → 0 < length pieces → IsWithinBounds pieces → All (IsUsablePiece size) pieces → pieces_in size (entries pieces ++ more) ≡ Some pieces
unfolding entries pieces_in
pieces_back size pieces more some bounds usable =
    let passed : (nat_le 1 (length pieces) && nat_le (length pieces) 4) ≡ true = grind (arith, nat_tests, bounds.count) in
    rw (passed, entries_back pieces more bounds.places bounds.total, tests_from_usable size pieces usable bounds.total) refl
