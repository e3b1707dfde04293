-- A commit touches at most 17 pages.
use Rattle.std.proofs.Common.{◌≡◌, ℕ, zero, suc, ◌+◌, ◌-◌, ◌*◌, ◌/◌, ◌≤◌, Bool, true, false, ◌||◌, cond, max, List, [], ◌∷◌, length, take, refl, ap, ⊎_elim, arith}
use Rattle.std.specs.List.{count_by, range_with_len}
use Rattle.std.proofs.lemmas.Bool.{cases_Bool, and_parts, ltb-true}
use Rattle.std.proofs.lemmas.List.Sums.{sum_by-cons, sum_by-take-le}
use Rattle.store_form.specs.Pieces.{Piece, byte_total, IsWithinBounds}
use Rattle.update_journal.proofs.EntriesLemmas.{byte_total-cons}
use Rattle.page_store.specs.Commits.{touches, is_touched, done_count}

abbrev pub ones : Bool → ℕ
ones b = cond b 1 0

count_cons : (q : ℕ → Bool) (x : ℕ) (xs : List ℕ) → count_by q (x ∷ xs) ≡ ones (q x) + count_by q xs
count_cons q x xs = sum_by-cons (λ y. ones (q y)) x xs

either : (a b : Bool) → ones (a || b) ≤ ones a + ones b
either true true = omega arith
either true false = omega arith
either false true = omega arith
either false false = omega arith

count_either : (p q r : ℕ → Bool) → ((x : ℕ) → r x ≡ (p x || q x)) → (xs : List ℕ) → count_by r xs ≤ count_by p xs + count_by q xs
count_either p q r is [] = omega arith
count_either p q r is (x ∷ xs) = omega (arith, count_cons p x xs, count_cons q x xs, count_cons r x xs, ap ones (is x), either (p x) (q x), count_either p q r is xs)

-- numbers of a range that lie between two bounds
count_between : (p : ℕ → Bool) (low high : ℕ) → ((x : ℕ) → p x ≡ true → (low ≤ x) × (x ≤ high)) → (a n : ℕ) → count_by p (range_with_len a n) ≤ high + 1 - max low a
count_between p low high within a zero = omega arith
count_between p low high within a (suc n) =
    let rest = count_between p low high within (a + 1) n in
    let first = count_cons p a (range_with_len (a + 1) n) in
    ⊎_elim {C = count_by p (range_with_len a (suc n)) ≤ high + 1 - max low a} (λ yes_one. let bounds = within a yes_one in omega (arith, first, ap ones yes_one, rest, bounds.0, bounds.1)) (λ no_one. omega (arith, first, ap ones no_one, rest)) (cases_Bool (p a))

count_piece : (piece : Piece) (a n : ℕ) → 64 * count_by (λ page. touches page piece) (range_with_len a n) ≤ length piece.bytes + 126
count_piece piece a n =
    let within : (page : ℕ) → touches page piece ≡ true → (piece.place / 64 ≤ page) × (page ≤ (piece.place + length piece.bytes - 1) / 64) = λ page touched.
    let both = and_parts _ _ touched in
    let first = ltb-true (64 * page) (piece.place + length piece.bytes) both.0 in
    let second = ltb-true piece.place (64 * page + 64) both.1 in
    (omega arith, omega arith) in
    let most = count_between (λ page. touches page piece) (piece.place / 64) ((piece.place + length piece.bytes - 1) / 64) within a n in
    omega (arith, most)

count_none : (xs : List ℕ) → count_by (is_touched []) xs ≡ 0
count_none [] = refl
count_none (x ∷ xs) = omega (arith, count_cons (is_touched []) x xs, count_none xs)

count_pieces : (pieces : List Piece) (a n : ℕ) → 64 * count_by (is_touched pieces) (range_with_len a n) ≤ byte_total pieces + 126 * length pieces
count_pieces [] a n = omega (arith, count_none (range_with_len a n))
count_pieces (piece ∷ pieces) a n =
    omega (arith, byte_total-cons piece pieces, count_piece piece a n, count_pieces pieces a n, count_either (λ page. touches page piece) (is_touched pieces) (is_touched (piece ∷ pieces)) (λ page. refl) (range_with_len a n))

pub few_done : (pieces : List Piece) (until : ℕ) → IsWithinBounds pieces → done_count pieces until ≤ 17
unfolding done_count
few_done pieces until bounds = front (until - 13) 13 1011
  where
    front : (k a n : ℕ) → count_by (is_touched pieces) (take k (range_with_len a n)) ≤ 17
    front k a n = omega (arith, sum_by-take-le (λ page. ones (is_touched pieces page)) (range_with_len a n) k, count_pieces pieces a n, bounds.count, bounds.total)
