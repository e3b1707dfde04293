-- A list that is filled from its front, and the first of some checks that fails.
use Rattle.std.proofs.Common.{zero, suc, get_or, set, ◌≡◌, ℕ, ◌+◌, ◌≤◌, ◌<◌, Bool, true, false, cond, List, [], ◌∷◌, ◌++◌, length, take, map, Option, Some, None, replicate, refl, sym, ◌∙◌, ap, ⊎_elim, arith, not, find, option_map, nat_lt, Result, Ok, Err, OnOk}
use Rattle.std.specs.List.{range_with_len}
use Rattle.std.proofs.lemmas.Bool.{cases_lt, cases_eq}
use Rattle.std.proofs.lemmas.Grind.{get_or-set_at}
use Rattle.std.proofs.lemmas.List.{same_lists, length-take, get_or-take, length-set, get_or-set_other, get_or-replicate}
use Rattle.std.proofs.lemmas.List.FromFn.{length-map-range_with_len, get_or-map-range_with_len}
use Rattle.std.proofs.lemmas.Bool.Decides.{nat_tests}
use Rattle.std.proofs.lemmas.Result.{on_ok_weaker}
use Rattle.card_state.specs.declared.entries.Node.{Node}
use Rattle.card_state.specs.declared.entries.Row.{Row}
use Rattle.card_state.specs.declared.entries.Loaded.{Loaded}
use Rattle.card_state.specs.Blank.{unused_row}
use Rattle.card_state.specs.Places.{row_count}
use Rattle.card_state.specs.Decoding.{row_when}
use Rattle.card_state.specs.Checks.{Check, first_failed}
use Rattle.layout_mount.specs.Loads.{FindsFirst}

-- the first elements are those of these numbers
pub front_filled : {X : Type 0} (f : ℕ → X) (xs : List X) (n : ℕ) → n ≤ length xs → ((k : ℕ) (d : X) → k < n → get_or xs k d ≡ f k) → take n xs ≡ map f (range_with_len 0 n)
front_filled f xs n few each =
    let long : length (take n xs) ≡ n = omega (arith, length-take n xs) in
    same_lists (take n xs) (map f (range_with_len 0 n)) (long ∙ sym (length-map-range_with_len f 0 n))
    (λ k d h.
    let low : k < n = omega arith in
    get_or-take n xs k d low ∙ each k d low ∙ sym (get_or-map-range_with_len f 0 n k k d low (omega arith)))

pub all_filled : {X : Type 0} (f : ℕ → X) (xs : List X) (n : ℕ) → length xs ≡ n → ((k : ℕ) (d : X) → k < n → get_or xs k d ≡ f k) → xs ≡ map f (range_with_len 0 n)
all_filled f xs n long each =
    same_lists xs (map f (range_with_len 0 n)) (long ∙ sym (length-map-range_with_len f 0 n))
    (λ k d h.
    let low : k < n = omega arith in
    each k d low ∙ sym (get_or-map-range_with_len f 0 n k k d low (omega arith)))

-- so far the elements are those of these numbers, and after them each is the one that stands for none
pub record IsFilling {X : Type 0} (f : ℕ → X) (blank : X) (count at : ℕ) (xs : List X) : Type 0 where
  pub long : length xs ≡ count
  pub front : (k : ℕ) (d : X) → k < at → get_or xs k d ≡ f k
  pub rest : (k : ℕ) (d : X) → at ≤ k → k < count → get_or xs k d ≡ blank

pub IsFilling_none : {X : Type 0} (f : ℕ → X) (blank : X) (count : ℕ) (xs : List X) → xs ≡ replicate count blank → length xs ≡ count → IsFilling f blank count 0 xs
IsFilling_none f blank count xs is long = record {
  long = long;
  front = λ k d h. absurd (omega arith);
  rest = λ k d h low. ap (λ l. get_or l k d) is ∙ get_or-replicate count k blank d low;
}

pub IsFilling_more : {X : Type 0} (f : ℕ → X) (blank : X) (count at : ℕ) (xs : List X) (x : X) → at < count → x ≡ f at → IsFilling f blank count at xs → IsFilling f blank count (at + 1) (set xs at x)
IsFilling_more f blank count at xs x low is so_far = record {
  long = length-set xs at x ∙ so_far.long;
  front = λ k d h.
      ⊎_elim {C = get_or (set xs at x) k d ≡ f k}
      (λ same. get_or-set_at xs at k x d same (omega (arith, so_far.long)) ∙ is ∙ ap f (sym same))
      (λ other. get_or-set_other xs at k x d other ∙ so_far.front k d (omega arith)) (cases_eq k at);
  rest = λ k d h below. get_or-set_other xs at k x d (λ same. omega arith) ∙ so_far.rest k d (omega arith) below;
}

pub take_filled : {X : Type 0} (f : ℕ → X) (blank : X) (count at : ℕ) (xs : List X) → at ≤ count → IsFilling f blank count at xs → take at xs ≡ map f (range_with_len 0 at)
take_filled f blank count at xs low so_far = front_filled f xs at (omega (arith, so_far.long)) so_far.front

-- where the others are the one that stands for none, all are those of their numbers
pub whole_filled : {X : Type 0} (f : ℕ → X) (blank : X) (count at : ℕ) (xs : List X) → ((k : ℕ) → at ≤ k → k < count → f k ≡ blank) → IsFilling f blank count at xs → xs ≡ map f (range_with_len 0 count)
whole_filled f blank count at xs others so_far =
    all_filled f xs count so_far.long
    (λ k d h. ⊎_elim {C = get_or xs k d ≡ f k} (so_far.front k d) (λ high. so_far.rest k d high h ∙ sym (others k high h)) (cases_lt k at))

-- no row stands on a shelf that the card does not have
pub row_when_high : (wide : Bool) (shelf : ℕ) (bytes more : List ℕ) → row_count wide ≤ shelf → row_when wide shelf bytes more ≡ unused_row
row_when_high true shelf bytes more high = let none : nat_lt shelf 32 ≡ false = grind (arith, nat_tests) in rw none refl
row_when_high false shelf bytes more high = let none : nat_lt shelf 16 ≡ false = grind (arith, nat_tests) in rw none refl

-- ---- checks

none_failed_from : (c : ℕ → Check) (a n : ℕ) → ((k : ℕ) → a ≤ k → k < a + n → (c k).is_met ≡ true) → first_failed (map c (range_with_len a n)) ≡ None
none_failed_from c a zero met = refl
none_failed_from c a (suc n) met = rw (met a (omega arith) (omega arith)) (none_failed_from c (a + 1) n (λ k low high. met k (omega arith) (omega arith)))

pub none_failed : (c : ℕ → Check) (n : ℕ) → ((k : ℕ) → k < n → (c k).is_met ≡ true) → first_failed (map c (range_with_len 0 n)) ≡ None
none_failed c n met = none_failed_from c 0 n (λ k low high. met k (omega arith))

first_failed_from : (c : ℕ → Check) (a n at : ℕ) → a ≤ at → at < a + n → ((k : ℕ) → a ≤ k → k < at → (c k).is_met ≡ true) → (c at).is_met ≡ false → first_failed (map c (range_with_len a n)) ≡ Some ((c at).place)
first_failed_from c a zero at from to met fails = absurd (omega arith)
first_failed_from c a (suc n) at from to met fails =
    ⊎_elim {C = first_failed (map c (range_with_len a (suc n))) ≡ Some ((c at).place)}
    (λ here.
    let fails_here : (c a).is_met ≡ false = ap (λ (k : ℕ). (c k).is_met) here ∙ fails in
    rw fails_here (ap (λ (k : ℕ). Some ((c k).place)) here))
    (λ later.
    let first : (c a).is_met ≡ true = met a (omega arith) (omega arith) in
    rw first (first_failed_from c (a + 1) n at (omega arith) (omega arith) (λ k low high. met k (omega arith) high) fails))
    (cases_eq a at)

pub first_failed_at : (c : ℕ → Check) (n at : ℕ) → at < n → ((k : ℕ) → k < at → (c k).is_met ≡ true) → (c at).is_met ≡ false → first_failed (map c (range_with_len 0 n)) ≡ Some ((c at).place)
first_failed_at c n at low met fails = first_failed_from c 0 n at (omega arith) (omega arith) (λ k h high. met k high) fails

-- the first that fails of two lists is that of the first, or else of the second
first_of_two : Option Check → Option Check → Option Check
first_of_two None other = other
first_of_two (Some x) other = Some x

find-append : (test : Check → Bool) (xs ys : List Check) → find test (xs ++ ys) ≡ first_of_two (find test xs) (find test ys)
unfolding first_of_two
find-append test [] ys = refl
find-append test (x ∷ xs) ys = chosen x (test x) (find test (xs ++ ys)) (find test xs) (find test ys) (find-append test xs ys)
  where
    chosen : (x : Check) (b : Bool) (whole rest others : Option Check) → whole ≡ first_of_two rest others → cond b (Some x) whole ≡ first_of_two (cond b (Some x) rest) others
    chosen x true whole rest others is = refl
    chosen x false whole rest others is = is

from_found : (first second : Option Check) → option_map (λ check. check.place) first ≡ None → option_map (λ check. check.place) (first_of_two first second) ≡ option_map (λ check. check.place) second
unfolding first_of_two
from_found None second none = refl
from_found (Some x) second none = absurd (cc none)

stays_found : (first second : Option Check) (at : ℕ) → option_map (λ check. check.place) first ≡ Some at → option_map (λ check. check.place) (first_of_two first second) ≡ Some at
unfolding first_of_two
stays_found None second at found = absurd (cc found)
stays_found (Some x) second at found = found

abbrev fails : Check → Bool
fails check = not check.is_met

pub first_failed-append : (xs ys : List Check) → first_failed xs ≡ None → first_failed (xs ++ ys) ≡ first_failed ys
first_failed-append xs ys none = ap (λ (o : Option Check). option_map (λ check. check.place) o) (find-append fails xs ys) ∙ from_found (find fails xs) (find fails ys) none

pub first_failed-append_found : (xs ys : List Check) (at : ℕ) → first_failed xs ≡ Some at → first_failed (xs ++ ys) ≡ Some at
first_failed-append_found xs ys at found = ap (λ (o : Option Check). option_map (λ check. check.place) o) (find-append fails xs ys) ∙ stays_found (find fails xs) (find fails ys) at found

-- what is found of the second list is found of both, where the first list passes
pub FindsFirst_second : {X : Type 0} (xs ys : List Check) (r : Result X ℕ) → first_failed xs ≡ None → FindsFirst ys r → FindsFirst (xs ++ ys) r
FindsFirst_second xs ys (Ok done) none found = first_failed-append xs ys none ∙ found
FindsFirst_second xs ys (Err at) none found = first_failed-append xs ys none ∙ found

pub found_both : (r : Result (Unit {0}) ℕ) (old : Loaded) (rows rows' : List Row) (nodes nodes' : List Node) → rows ≡ rows' → OnOk r (nodes ≡ nodes')
    → OnOk r ((let first : Loaded = record old { rows = rows; nodes = nodes } in first) ≡ (let second : Loaded = record old { rows = rows'; nodes = nodes' } in second))
found_both r old rows rows' nodes nodes' same found = on_ok_weaker r (λ (is : nodes ≡ nodes'). rw (same, is) refl) found

-- the first check fails, or it is met and the others count
pub failed_first : (check : Check) (others : List Check) (at : ℕ) → check.is_met ≡ false → at ≡ check.place → first_failed (check ∷ others) ≡ Some at
failed_first check others at failed same = rw failed (ap Some (sym same))

pub met_first : (check : Check) (others : List Check) → check.is_met ≡ true → first_failed (check ∷ others) ≡ first_failed others
met_first check others met = rw met refl
