-- Pieces that are read were spelled so.
use Rattle.std.proofs.Common.{◌≡◌, ℕ, suc, zero, ◌^◌, ◌<◌, ◌≤◌, Bool, true, false, List, [], ◌∷◌, ◌++◌, length, take, drop, get_or, Some, None, refl, sym, ap, ◌∙◌, subst, arith, append_assoc, ◌&&◌, nat_le, if◌then◌else◌, option_map, option_and_then, All, length-take-le, take-append-drop}
use Rattle.std.specs.Int.{from_be_bytes, to_be_bytes, w16}
use Rattle.std.specs.List.{flat_map, list_all}
use Rattle.std.proofs.lemmas.Bool.{and_parts, leb-true}
use Rattle.std.proofs.lemmas.List.Elements.{All-cons, All-drop, All-nil, All-tail}
use Rattle.std.proofs.lemmas.Nat.{be_bytes_2}
use Rattle.std.proofs.lemmas.Option.{cond_some, option_and_then_some}
use Rattle.list_laws.proofs.CondLemmas.{mapped_Some}
use Rattle.store_form.specs.Pieces.{Piece, byte_total}
use Rattle.update_journal.proofs.EntriesLemmas.{pieces_back}
use Rattle.update_journal.specs.Entries.{are_well_formed, entries, entry, first_piece, first_pieces, if_well_formed, is_usable, pieces_in}
use Rattle.update_journal.specs.WellFormed.{usable_from_area}
use Rattle.update_journal.specs.JournalLaws.{EntriesAreRead, MayBeCommitted, NothingElseIsRead}

pub entries_are_read : EntriesAreRead
entries_are_read size pieces behind may = pieces_back size pieces behind may.some may.bounds may.usable

-- ---- the other way

abbrev IsByte : ℕ → Type 0
IsByte byte = byte < 256

abbrev IsLow : Piece → Type 0
IsLow piece = piece.place < 2 ^ 16

two_low : (a b : ℕ) → IsByte a → IsByte b → (i : ℕ) → IsByte (get_or (a ∷ b ∷ []) i 0)
two_low a b low small zero = low
two_low a b low small (suc zero) = small
two_low a b low small (suc (suc i)) = omega arith

spelled_again : (a b number : ℕ) → IsByte a → IsByte b → number ≡ from_be_bytes w16 (a ∷ b ∷ []) → to_be_bytes w16 number ≡ a ∷ b ∷ []
spelled_again a b number low small is = be_bytes_2 (a ∷ b ∷ []) number refl (two_low a b low small) is

word_low : (a b : ℕ) → IsByte a → IsByte b → from_be_bytes w16 (a ∷ b ∷ []) < 2 ^ 16
word_low a b low small = omega (arith, low, small)

-- a piece, and what stands after it
abbrev IsSpelled : List ℕ → Piece → List ℕ → Type 0
IsSpelled bytes piece rest = (bytes ≡ entry piece ++ rest) × IsLow piece × All IsByte rest

module _ (p0 p1 l0 l1 : ℕ) (more : List ℕ) (low : All IsByte (p0 ∷ p1 ∷ l0 ∷ l1 ∷ more)) where
  abbrev count : ℕ
  count = from_be_bytes w16 (l0 ∷ l1 ∷ [])

  abbrev made : Piece
  made = record { place = from_be_bytes w16 (p0 ∷ p1 ∷ []); bytes = take count more }

  made_spelled : count ≤ length more → IsSpelled (p0 ∷ p1 ∷ l0 ∷ l1 ∷ more) made (drop count more)
  made_spelled fits =
      let b0 : IsByte p0 = low 0 0 (omega arith) in
      let b1 : IsByte p1 = low 1 0 (omega arith) in
      let b2 : IsByte l0 = low 2 0 (omega arith) in
      let b3 : IsByte l1 = low 3 0 (omega arith) in
      let behind : All IsByte more = λ k d inside. low (suc (suc (suc (suc k)))) d (omega (arith, inside)) in
      let place : to_be_bytes w16 made.place ≡ p0 ∷ p1 ∷ [] = spelled_again p0 p1 made.place b0 b1 refl in
      let long : length (take count more) ≡ count = length-take-le count more fits in
      let size : to_be_bytes w16 (length (take count more)) ≡ l0 ∷ l1 ∷ [] = spelled_again l0 l1 (length (take count more)) b2 b3 long in (
        sym (
            ap (λ (l : List ℕ). l ++ to_be_bytes w16 (length (take count more)) ++ take count more ++ drop count more) place
            ∙ ap (λ (l : List ℕ). (p0 ∷ p1 ∷ []) ++ l ++ take count more ++ drop count more) size
            ∙ ap (λ (l : List ℕ). p0 ∷ p1 ∷ l0 ∷ l1 ∷ l) (take-append-drop count more)),
        word_low p0 p1 b0 b1,
        All-drop IsByte count more behind,
      )

first_spelled : (bytes : List ℕ) (piece : Piece) (rest : List ℕ) → All IsByte bytes → first_piece bytes ≡ Some (piece, rest) → IsSpelled bytes piece rest
first_spelled (p0 ∷ p1 ∷ l0 ∷ l1 ∷ more) piece rest low is =
    let chosen = cond_some (nat_le (from_be_bytes w16 (l0 ∷ l1 ∷ [])) (length more)) (made p0 p1 l0 l1 more low, drop (from_be_bytes w16 (l0 ∷ l1 ∷ [])) more) (piece, rest) is in
    subst (λ (found : Piece × List ℕ). IsSpelled (p0 ∷ p1 ∷ l0 ∷ l1 ∷ more) found.0 found.1) chosen.1 (made_spelled p0 p1 l0 l1 more low (leb-true (from_be_bytes w16 (l0 ∷ l1 ∷ [])) (length more) chosen.0))
first_spelled _ piece rest low is = absurd (cc)

record AreSpelled (count : ℕ) (bytes : List ℕ) (pieces : List Piece) : Type 0 where
  long : length pieces ≡ count
  places : All IsLow pieces
  behind : List ℕ
  spelled : bytes ≡ flat_map entry pieces ++ behind

all_spelled : (count : ℕ) (bytes : List ℕ) (pieces : List Piece) → All IsByte bytes → first_pieces count bytes ≡ Some pieces → AreSpelled count bytes pieces
all_spelled zero bytes pieces low is =
    subst (AreSpelled zero bytes) (some_same is) (record { long = refl; places = All-nil IsLow; behind = bytes; spelled = refl })
  where
    some_same : Some [] ≡ Some pieces → [] ≡ pieces
    some_same is = cc
all_spelled (suc count) bytes pieces low is =
    option_and_then_some (λ found. option_map (λ ps. found.0 ∷ ps) (first_pieces count found.1)) (first_piece bytes) pieces is (λ found is_found is_others.
    let first : IsSpelled bytes found.0 found.1 = first_spelled bytes found.0 found.1 low is_found in
    let others = mapped_Some (λ (ps : List Piece). found.0 ∷ ps) (first_pieces count found.1) pieces is_others in
    let rest : AreSpelled count found.1 others.0 = all_spelled count found.1 others.0 first.2 others.1 in
    subst (AreSpelled (suc count) bytes) others.2 (
    record {
      long = ap (λ (n : ℕ). suc n) rest.long;
      places = All-cons IsLow found.0 others.0 first.1 rest.places;
      behind = rest.behind;
      spelled = first.0 ∙ ap (λ (l : List ℕ). entry found.0 ++ l) rest.spelled ∙ sym (append_assoc (entry found.0) (flat_map entry others.0) rest.behind);
    }))

abbrev CanBeRead : ℕ → List ℕ → List Piece → Type 0
CanBeRead size area pieces = MayBeCommitted size pieces × ((behind : List ℕ) × (area ≡ entries pieces ++ behind))

count_read : (size count : ℕ) (bytes : List ℕ) (pieces : List Piece) (b : Bool) → (nat_le 1 count && nat_le count 4) ≡ b → All IsByte bytes
    → (if b then option_and_then (if_well_formed size) (first_pieces count bytes) else None) ≡ Some pieces → pieces_in size (count ∷ bytes) ≡ Some pieces → CanBeRead size (count ∷ bytes) pieces
unfolding entries
count_read size count bytes pieces false counted low is whole = absurd (cc)
count_read size count bytes pieces true counted low is whole =
    let both = and_parts (nat_le 1 count) (nat_le count 4) counted in
    let some : 1 ≤ count = leb-true 1 count both.0 in
    let few : count ≤ 4 = leb-true count 4 both.1 in
    option_and_then_some (if_well_formed size) (first_pieces count bytes) pieces is (λ found is_found is_formed.
    let formed = cond_some (are_well_formed size found) found pieces is_formed in
    let tests = and_parts (list_all (λ (piece : Piece). is_usable size piece.place (length piece.bytes)) found) (nat_le (byte_total found) 640) formed.0 in
    let total : byte_total pieces ≤ 640 = subst (λ (ps : List Piece). byte_total ps ≤ 640) formed.1 (leb-true (byte_total found) 640 tests.1) in
    let spelled : AreSpelled count bytes pieces = subst (AreSpelled count bytes) formed.1 (all_spelled count bytes found low is_found) in (
      record {
        some = omega (arith, spelled.long, some);
        bounds = record { count = omega (arith, spelled.long, few); total = total; places = spelled.places };
        usable = usable_from_area size (count ∷ bytes) pieces whole;
      },
      (spelled.behind, ap (λ (n : ℕ). n ∷ bytes) (sym spelled.long) ∙ ap (λ (l : List ℕ). length pieces ∷ l) spelled.spelled),
    ))

pub nothing_else_is_read : NothingElseIsRead
unfolding pieces_in
nothing_else_is_read size [] pieces low is = absurd (cc)
nothing_else_is_read size (count ∷ bytes) pieces low is = count_read size count bytes pieces (nat_le 1 count && nat_le count 4) refl (All-tail IsByte count bytes low) is is
