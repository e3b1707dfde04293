-- The elements of a list that pass a test, each seen with its number: what becomes of them once one element is another.
use Rattle.std.proofs.Common.{◌≡◌, ℕ, zero, suc, ◌+◌, ◌≤◌, ◌<◌, ◌==◌, Bool, true, false, nat_lt, if◌then◌else◌, List, [], ◌∷◌, ◌++◌, length, map, filter, slice_get, Option, Some, None, All, Contains, set, refl, sym, ◌∙◌, ap, subst, add-zero, arith}
use Rattle.std.specs.List.{enumerate_from, range_with_len}
use Rattle.std.proofs.lemmas.Option.{same_Some}
use Rattle.std.proofs.lemmas.List.Elements.{All-cons, All-weaker}
use Rattle.std.proofs.lemmas.Bool.Decides.{nat_tests}
use Rattle.list_laws.proofs.MapLemmas.{same_mapped}
use Rattle.card_state.specs.Changing.{listed, placed}

abbrev pub entry_if : {X Y : Type 0} → (X → Bool) → (ℕ × X → Y) → ℕ → X → Option Y
entry_if test f number x = if test x then Some (f (number, x)) else None

module _ {X Y : Type 0} (test : X → Bool) (f : ℕ × X → Y) (number_of : Y → ℕ) (is : (e : ℕ × X) → number_of (f e) ≡ e.0) where
  abbrev pub seen : ℕ → List X → List Y
  seen start xs = map f (filter (λ e. test e.1) (enumerate_from start xs))

  abbrev below : ℕ → List Y → List Y
  below n = filter (λ y. nat_lt (number_of y) n)

  abbrev above : ℕ → List Y → List Y
  above n = filter (λ y. nat_lt n (number_of y))

  not_below : (start n : ℕ) → n ≤ start → (x : X) → nat_lt (number_of (f (start, x))) n ≡ false
  not_below start n low x = let e : number_of (f (start, x)) ≡ start = is (start, x) in grind (arith, nat_tests)

  is_above : (start n : ℕ) → n < start → (x : X) → nat_lt n (number_of (f (start, x))) ≡ true
  is_above start n low x = let e : number_of (f (start, x)) ≡ start = is (start, x) in grind (arith, nat_tests)

  not_above : (start n : ℕ) → start ≤ n → (x : X) → nat_lt n (number_of (f (start, x))) ≡ false
  not_above start n low x = let e : number_of (f (start, x)) ≡ start = is (start, x) in grind (arith, nat_tests)

  is_below : (start n : ℕ) → start < n → (x : X) → nat_lt (number_of (f (start, x))) n ≡ true
  is_below start n low x = let e : number_of (f (start, x)) ≡ start = is (start, x) in grind (arith, nat_tests)

  -- one element more in front
  abbrev front : Bool → Y → List Y → List Y
  front shown y ys = if shown then y ∷ ys else ys

  seen-cons : (start : ℕ) (x : X) (xs : List X) → seen start (x ∷ xs) ≡ (if test x then f (start, x) ∷ seen (start + 1) xs else seen (start + 1) xs)
  seen-cons start x xs = by_test (test x) where
    by_test : (b : Bool) → map f (if b then (start, x) ∷ filter (λ e. test e.1) (enumerate_from (start + 1) xs) else filter (λ e. test e.1) (enumerate_from (start + 1) xs)) ≡ (if b then f (start, x) ∷ seen (start + 1) xs else seen (start + 1) xs)
    by_test true = refl
    by_test false = refl

  none_below : (start n : ℕ) (xs : List X) → n ≤ start → below n (seen start xs) ≡ []
  none_below start n [] low = refl
  none_below start n (x ∷ xs) low =
      let rest : below n (seen (start + 1) xs) ≡ [] = none_below (start + 1) n xs (omega arith) in
      ap (below n) (seen-cons start x xs) ∙ by_test (test x) rest
    where
      by_test : (b : Bool) → below n (seen (start + 1) xs) ≡ [] → below n (if b then f (start, x) ∷ seen (start + 1) xs else seen (start + 1) xs) ≡ []
      by_test true rest = rw (not_below start n low x) rest
      by_test false rest = rest

  all_above : (start n : ℕ) (xs : List X) → n < start → above n (seen start xs) ≡ seen start xs
  all_above start n [] low = refl
  all_above start n (x ∷ xs) low =
      let rest : above n (seen (start + 1) xs) ≡ seen (start + 1) xs = all_above (start + 1) n xs (omega arith) in
      ap (above n) (seen-cons start x xs) ∙ by_test (test x) rest ∙ sym (seen-cons start x xs)
    where
      by_test : (b : Bool) → above n (seen (start + 1) xs) ≡ seen (start + 1) xs
          → above n (if b then f (start, x) ∷ seen (start + 1) xs else seen (start + 1) xs) ≡ (if b then f (start, x) ∷ seen (start + 1) xs else seen (start + 1) xs)
      by_test true rest = rw (is_above start n low x) (ap (λ (ys : List Y). f (start, x) ∷ ys) rest)
      by_test false rest = rest

  first_above : (start n : ℕ) (x : X) (xs : List X) → n ≡ start → above n (seen start (x ∷ xs)) ≡ seen (start + 1) xs
  first_above start n x xs same =
      let rest : above n (seen (start + 1) xs) ≡ seen (start + 1) xs = all_above (start + 1) n xs (omega arith) in
      ap (above n) (seen-cons start x xs) ∙ by_test (test x) rest
    where
      by_test : (b : Bool) → above n (seen (start + 1) xs) ≡ seen (start + 1) xs → above n (if b then f (start, x) ∷ seen (start + 1) xs else seen (start + 1) xs) ≡ seen (start + 1) xs
      by_test true rest = rw (not_above start n (omega arith) x) rest
      by_test false rest = rest

  alone : (shown : Bool) (y : Y) (ys : List Y) → (if shown then y ∷ ys else ys) ≡ [] ++ listed (if shown then Some y else None) ++ ys
  alone true y ys = refl
  alone false y ys = refl

  -- an element that was set is seen in its place, if it passes
  pub seen-set : (start k number : ℕ) (xs : List X) (x : X) → k < length xs → number ≡ start + k → seen start (set xs k x) ≡ placed number_of number (entry_if test f number x) (seen start xs)
  seen-set start k number [] x low same = absurd (omega arith)
  seen-set start zero number (y ∷ ys) x low same =
      let here : number ≡ start = omega arith in
      seen-cons start x ys ∙ alone (test x) (f (start, x)) (seen (start + 1) ys)
      ∙ ap (λ (n : ℕ). [] ++ listed (entry_if test f n x) ++ seen (start + 1) ys) (sym here)
      ∙ ap (λ (l : List Y). l ++ listed (entry_if test f number x) ++ seen (start + 1) ys) (sym (none_below start number (y ∷ ys) (omega arith)))
      ∙ ap (λ (l : List Y). below number (seen start (y ∷ ys)) ++ listed (entry_if test f number x) ++ l) (sym (first_above start number y ys here))
  seen-set start (suc k) number (y ∷ ys) x low same =
      let rest : seen (start + 1) (set ys k x) ≡ placed number_of number (entry_if test f number x) (seen (start + 1) ys) = seen-set (start + 1) k number ys x (omega arith) (omega arith) in
      seen-cons start y (set ys k x) ∙ ap (λ (l : List Y). front (test y) (f (start, y)) l) rest ∙ by_test (test y)
      ∙ ap (λ (l : List Y). placed number_of number (entry_if test f number x) l) (sym (seen-cons start y ys))
    where
      by_test : (b : Bool) → front b (f (start, y)) (placed number_of number (entry_if test f number x) (seen (start + 1) ys))
          ≡ placed number_of number (entry_if test f number x) (if b then f (start, y) ∷ seen (start + 1) ys else seen (start + 1) ys)
      by_test true = rw (is_below start number (omega arith) y, not_above start number (omega arith) y) refl
      by_test false = refl

-- ---- elements that are seen

module _ {X : Type 0} (test : X → Bool) where
  abbrev pub shown : ℕ → List X → List (ℕ × X)
  shown start xs = filter (λ e. test e.1) (enumerate_from start xs)

  -- each that is seen passes, and stands in the list under its number
  pub record IsShown (start : ℕ) (xs : List X) (e : ℕ × X) : Type 0 where
    pub from : start ≤ e.0
    pub passes : test e.1 ≡ true
    pub there : (k : ℕ) → e.0 ≡ start + k → slice_get xs k ≡ Some e.1

  IsShown_later : (start : ℕ) (x : X) (xs : List X) (e : ℕ × X) → IsShown (start + 1) xs e → IsShown start (x ∷ xs) e
  IsShown_later start x xs e h = record { from = omega (arith, h.from); passes = h.passes; there = there } where
    there : (k : ℕ) → e.0 ≡ start + k → slice_get (x ∷ xs) k ≡ Some e.1
    there zero same = absurd (omega (arith, h.from))
    there (suc k) same = h.there k (omega arith)

  pub all_shown : (start : ℕ) (xs : List X) → All (IsShown start xs) (shown start xs)
  all_shown start [] = λ k d h. absurd (omega arith)
  all_shown start (x ∷ xs) =
      let later : All (IsShown start (x ∷ xs)) (shown (start + 1) xs) = All-weaker (IsShown (start + 1) xs) (IsShown start (x ∷ xs)) (IsShown_later start x xs) (shown (start + 1) xs) (all_shown (start + 1) xs) in
      by_test (test x) refl later
    where
      here : (k : ℕ) → start ≡ start + k → slice_get (x ∷ xs) k ≡ Some x
      here zero same = refl
      here (suc k) same = absurd (omega arith)

      by_test : (b : Bool) → test x ≡ b → All (IsShown start (x ∷ xs)) (shown (start + 1) xs) → All (IsShown start (x ∷ xs)) (if b then (start, x) ∷ shown (start + 1) xs else shown (start + 1) xs)
      by_test true is later = All-cons (IsShown start (x ∷ xs)) (start, x) (shown (start + 1) xs) (record { from = omega arith; passes = is; there = here }) later
      by_test false is later = later

  -- each that passes is seen
  pub is_shown : (start k number : ℕ) (xs : List X) (x : X) → number ≡ start + k → slice_get xs k ≡ Some x → test x ≡ true → Contains (shown start xs) (number, x)
  is_shown start k number [] x same there passes = absurd (let none : None ≡ Some x = there in cc)
  is_shown start zero number (y ∷ ys) x same there passes =
      let here : start ≡ number = omega arith in
      let P : X → Type 0 = λ z. Contains (shown start (z ∷ ys)) (number, x) in
      subst P (sym (same_Some y x there)) (rw passes (0, omega arith, ap (λ (n : ℕ). (n, x)) here))
  is_shown start (suc k) number (y ∷ ys) x same there passes =
      let rest : Contains (shown (start + 1) ys) (number, x) = is_shown (start + 1) k number ys x (omega arith) there passes in
      by_test (test y) rest
    where
      by_test : (b : Bool) → Contains (shown (start + 1) ys) (number, x) → Contains (if b then (start, y) ∷ shown (start + 1) ys else shown (start + 1) ys) (number, x)
      by_test true rest = (suc rest.0, omega (arith, rest.1), rest.2)
      by_test false rest = rest

abbrev pub with_one : {X Y : Type 0} → (ℕ × X → Y) → ℕ → Y → ℕ × X → Y
with_one f number y e = if e.0 == number then y else f e

later_stay : {X Y : Type 0} (test : X → Bool) (f : ℕ × X → Y) (number start : ℕ) (y : Y) (xs : List X) → number < start → map (with_one f number y) (shown test start xs) ≡ map f (shown test start xs)
later_stay test f number start y xs low =
    same_mapped (with_one f number y) f (shown test start xs)
    (All-weaker (IsShown test start xs) (λ e. with_one f number y e ≡ f e)
    (λ e h. let is : (e.0 == number) ≡ false = grind (arith, nat_tests, h.from) in ap (λ (b : Bool). if b then y else f e) is) (shown test start xs) (all_shown test start xs))

-- an element that passes set in place of one that does: it alone is seen anew
pub shown-reset : {X Y : Type 0} (test : X → Bool) (f : ℕ × X → Y) (start k number : ℕ) (xs : List X) (old new : X) → number ≡ start + k → slice_get xs k ≡ Some old → test old ≡ true → test new ≡ true
    → map f (shown test start (set xs k new)) ≡ map (with_one f number (f (number, new))) (shown test start xs)
shown-reset test f start k number [] old new same there old_passes new_passes = absurd (let none : None ≡ Some old = there in cc)
shown-reset test f start zero number (y ∷ ys) old new same there old_passes new_passes =
    let here : start ≡ number = omega arith in
    let passes : test y ≡ true = ap test (same_Some y old there) ∙ old_passes in
    let found : (start == number) ≡ true = grind (arith, nat_tests) in
    ap (λ (b : Bool). map f (if b then (start, new) ∷ shown test (start + 1) ys else shown test (start + 1) ys)) new_passes
    ∙ ap (λ (n : ℕ). f (n, new) ∷ map f (shown test (start + 1) ys)) here
    ∙ ap (λ list. f (number, new) ∷ list) (sym (later_stay test f number (start + 1) (f (number, new)) ys (omega arith)))
    ∙ ap (λ (b : Bool). (if b then f (number, new) else f (start, y)) ∷ map (with_one f number (f (number, new))) (shown test (start + 1) ys)) (sym found)
    ∙ ap (λ (b : Bool). map (with_one f number (f (number, new))) (if b then (start, y) ∷ shown test (start + 1) ys else shown test (start + 1) ys)) (sym passes)
shown-reset test f start (suc k) number (y ∷ ys) old new same there old_passes new_passes =
    by_test (test y) (shown-reset test f (start + 1) k number ys old new (omega arith) there old_passes new_passes)
  where
    missed : (start == number) ≡ false
    missed = grind (arith, nat_tests)

    by_test : (b : Bool) → map f (shown test (start + 1) (set ys k new)) ≡ map (with_one f number (f (number, new))) (shown test (start + 1) ys)
        → map f (if b then (start, y) ∷ shown test (start + 1) (set ys k new) else shown test (start + 1) (set ys k new))
        ≡ map (with_one f number (f (number, new))) (if b then (start, y) ∷ shown test (start + 1) ys else shown test (start + 1) ys)
    by_test true rest =
        ap (λ list. f (start, y) ∷ list) rest
        ∙ ap (λ (b : Bool). (if b then f (number, new) else f (start, y)) ∷ map (with_one f number (f (number, new))) (shown test (start + 1) ys)) (sym missed)
    by_test false rest = rest

-- ---- pairs of elements

-- ---- lists by a function of the numbers

pub got_numbered : {X : Type 0} (f : ℕ → X) (start n k : ℕ) (x : X) → slice_get (map f (range_with_len start n)) k ≡ Some x → (k < n) × (f (start + k) ≡ x)
got_numbered f start zero k x there = absurd (let none : None ≡ Some x = there in cc)
got_numbered f start (suc n) zero x there = (omega arith, ap f (add-zero start) ∙ same_Some (f start) x there)
got_numbered f start (suc n) (suc k) x there =
    let rest : (k < n) × (f (start + 1 + k) ≡ x) = got_numbered f (start + 1) n k x there in
    let same : start + suc k ≡ start + 1 + k = omega arith in
    (omega (arith, rest.0), ap f same ∙ rest.1)
