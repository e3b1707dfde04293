-- Usable pieces pass the test of well formed pieces.
use Rattle.std.specs.List.{list_all}
use Rattle.std.proofs.Common.{◌≡◌, ℕ, ◌+◌, ◌≤◌, ◌<◌, true, nat_le, List, length, All, refl, arith}
use Rattle.std.proofs.lemmas.Bool.Decides.{nat_tests}
use Rattle.std.proofs.lemmas.List.Sums.{list_all-from_AllPass}
use Rattle.std.proofs.lemmas.List.Elements.{All-weaker}
use Rattle.store_form.specs.Pieces.{Piece, byte_total, IsUsablePiece}
use Rattle.update_journal.specs.Entries.{are_well_formed}
use Rattle.update_journal.specs.WellFormed.{test}

pub test_from_usable : (size : ℕ) (piece : Piece) → IsUsablePiece size piece → test size piece ≡ true
test_from_usable size piece usable =
    let some : 0 < length piece.bytes = usable.some in
    let inside : piece.place + length piece.bytes ≤ size = usable.range.inside in
    let outside : piece.place < 832 → piece.place + length piece.bytes ≤ 64 = usable.range.outside some in
    grind (arith, nat_tests)

pub tests_from_usable : (size : ℕ) (pieces : List Piece) → All (IsUsablePiece size) pieces → byte_total pieces ≤ 640 → are_well_formed size pieces ≡ true
tests_from_usable size pieces usable few =
    let each : list_all (test size) pieces ≡ true = list_all-from_AllPass (test size) pieces (All-weaker (IsUsablePiece size) (λ piece. test size piece ≡ true) (test_from_usable size) pieces usable) in
    let total : nat_le (byte_total pieces) 640 ≡ true = grind (arith, nat_tests) in
    rw (each, total) refl
