-- Entries that are read one after the other.
use Rattle.std.proofs.Common.{zero-add, ◌⊎◌, ◌≡◌, ℕ, ◌+◌, ◌≤◌, ◌<◌, suc, Bool, true, false, ◌&&◌, nat_le, List, [], ◌∷◌, ◌++◌, length, Option, Some, None, refl, sym, ◌∙◌, ap, subst, arith, append_assoc, option_map, option_and_then, All, append-nil}
use Rattle.std.specs.List.{list_all}
use Rattle.std.proofs.lemmas.Bool.Decides.{nat_tests}
use Rattle.std.proofs.lemmas.List.Folds.{list_all-append}
use Rattle.std.proofs.lemmas.List.Sums.{sum_by-append}
use Rattle.std.proofs.Math.Bool.{and-false}
use Rattle.store_form.specs.Pieces.{Piece, byte_total, IsUsablePiece}
use Rattle.update_journal.specs.Entries.{first_piece, first_pieces, is_usable, are_well_formed, if_well_formed, pieces_in}
use Rattle.update_journal.specs.WellFormed.{test}
use Rattle.update_journal.proofs.WellFormedLemmas.{tests_from_usable}

-- what the area spells: these pieces, and then so many more at the front of what is left
pub record Reads (size : ℕ) (area : List ℕ) (done : List Piece) (left : ℕ) (rest : List ℕ) : Type 0 where
  pub same : pieces_in size area ≡ option_and_then (if_well_formed size) (option_map (λ more. done ++ more) (first_pieces left rest))

nothing_done : (found : Option (List Piece)) → found ≡ option_map (λ more. [] ++ more) found
nothing_done None = refl
nothing_done (Some pieces) = refl

pub reads_begun : (size count : ℕ) (bytes : List ℕ) → 1 ≤ count → count ≤ 4 → Reads size (count ∷ bytes) [] count bytes
unfolding pieces_in
reads_begun size count bytes some few =
    let passed : (nat_le 1 count && nat_le count 4) ≡ true = grind (arith, nat_tests) in
    record { same = rw passed (ap (λ (o : Option (List Piece)). option_and_then (if_well_formed size) o) (nothing_done (first_pieces count bytes))) }

pub no_count : (size count : ℕ) (bytes : List ℕ) → (count ≡ 0) ⊎ (4 < count) → None ≡ pieces_in size (count ∷ bytes)
unfolding pieces_in
no_count size count bytes out =
    let failed : (nat_le 1 count && nat_le count 4) ≡ false = grind (arith, nat_tests) in rw failed refl

on_found : (done more : List Piece) (piece : Piece) (found : Option (List Piece)) → option_map (λ ps. done ++ ps) (option_map (λ ps. piece ∷ ps) found) ≡ option_map (λ ps. (done ++ piece ∷ []) ++ ps) found
on_found done more piece None = refl
on_found done more piece (Some pieces) = ap (λ (l : List Piece). Some l) (sym (append_assoc done (piece ∷ []) pieces))

pub reads_on : (size left : ℕ) (area : List ℕ) (done : List Piece) (rest behind : List ℕ) (piece : Piece) → Reads size area done (suc left) rest → first_piece rest ≡ Some (piece, behind) → Reads size area (done ++ piece ∷ []) left behind
reads_on size left area done rest behind piece reads found =
    record { same = reads.same ∙ rw found (ap (λ (o : Option (List Piece)). option_and_then (if_well_formed size) o) (on_found done [] piece (first_pieces left behind))) }

refused : (size : ℕ) (done : List Piece) (piece : Piece) (found : Option (List Piece)) → ((more : List Piece) → are_well_formed size ((done ++ piece ∷ []) ++ more) ≡ false)
    → None ≡ option_and_then (if_well_formed size) (option_map (λ ps. (done ++ piece ∷ []) ++ ps) found)
refused size done piece None never = refl
refused size done piece (Some more) never = rw (never more) refl

ill_formed : (size left : ℕ) (area : List ℕ) (done : List Piece) (rest behind : List ℕ) (piece : Piece) → Reads size area done (suc left) rest → first_piece rest ≡ Some (piece, behind)
    → ((more : List Piece) → are_well_formed size ((done ++ piece ∷ []) ++ more) ≡ false) → None ≡ pieces_in size area
ill_formed size left area done rest behind piece reads found never =
    refused size done piece (first_pieces left behind) never ∙ sym ((reads_on size left area done rest behind piece reads found).same)

-- the next piece is none that a commit may have
pub reads_unusable : (size left : ℕ) (area : List ℕ) (done : List Piece) (rest behind : List ℕ) (piece : Piece) → Reads size area done (suc left) rest → first_piece rest ≡ Some (piece, behind)
    → is_usable size piece.place (length piece.bytes) ≡ false → None ≡ pieces_in size area
reads_unusable size left area done rest behind piece reads found unusable =
    ill_formed size left area done rest behind piece reads found (λ more.
    let split = list_all-append (test size) (done ++ piece ∷ []) more in
    let front = list_all-append (test size) done (piece ∷ []) in
    let failed : list_all (test size) ((done ++ piece ∷ []) ++ more) ≡ false = split ∙ rw (front, unusable) (never_both (list_all (test size) done) (list_all (test size) more)) in
    rw failed refl)
  where
    never_both : (a b : Bool) → ((a && (false && true)) && b) ≡ false
    never_both true b = refl
    never_both false b = refl

-- with the next piece there are too many bytes
pub reads_too_many : (size left : ℕ) (area : List ℕ) (done : List Piece) (rest behind : List ℕ) (piece : Piece) → Reads size area done (suc left) rest → first_piece rest ≡ Some (piece, behind)
    → 640 < byte_total done + length piece.bytes → None ≡ pieces_in size area
reads_too_many size left area done rest behind piece reads found many =
    ill_formed size left area done rest behind piece reads found (λ more.
    let split = sum_by-append (λ (p : Piece). length p.bytes) (done ++ piece ∷ []) more in
    let front = sum_by-append (λ (p : Piece). length p.bytes) done (piece ∷ []) in
    let failed : nat_le (byte_total ((done ++ piece ∷ []) ++ more)) 640 ≡ false = grind (arith, nat_tests, split, front) in
    rw failed (and-false (list_all (test size) ((done ++ piece ∷ []) ++ more))))

pub reads_all : (size : ℕ) (area : List ℕ) (done : List Piece) (rest : List ℕ) → Reads size area done 0 rest → All (IsUsablePiece size) done → byte_total done ≤ 640 → Some done ≡ pieces_in size area
reads_all size area done rest reads usable few =
    sym (reads.same ∙ rw (append-nil, tests_from_usable size done usable few) refl)

-- one piece is among those that are left
pub reads_more : (size left later : ℕ) (area : List ℕ) (done : List Piece) (rest : List ℕ) → left ≡ suc later → Reads size area done left rest → Reads size area done (suc later) rest
reads_more size left later area done rest is reads = let P : ℕ → Type 0 = λ n. Reads size area done n rest in subst P is reads

pub reads_to_end : (size left : ℕ) (area : List ℕ) (done : List Piece) (rest : List ℕ) → left ≡ 0 → Reads size area done left rest → Reads size area done 0 rest
reads_to_end size left area done rest is reads = let P : ℕ → Type 0 = λ n. Reads size area done n rest in subst P is reads

pub no_area : (size : ℕ) (area : List ℕ) → length area ≡ 0 → None ≡ pieces_in size area
unfolding pieces_in
no_area size [] none = refl
no_area size (count ∷ bytes) none = absurd (omega arith)

pub begun_with : (size count : ℕ) (area bytes : List ℕ) (done : List Piece) (left : ℕ) → area ≡ count ∷ bytes → done ≡ [] → left ≡ count → 1 ≤ count → count ≤ 4 → Reads size area done left bytes
begun_with size count area bytes done left is none all some few = rw (is, none, all) (reads_begun size count bytes some few)

pub byte_total-one : (done : List Piece) (piece : Piece) → byte_total (done ++ piece ∷ []) ≡ byte_total done + length piece.bytes
byte_total-one done piece =
    sum_by-append (λ (p : Piece). length p.bytes) done (piece ∷ []) ∙ ap (λ (n : ℕ). byte_total done + n) (zero-add (length piece.bytes))
