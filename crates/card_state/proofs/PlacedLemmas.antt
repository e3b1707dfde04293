-- What holds of a list in which one element, by its number, is another, new or gone.
use Rattle.std.proofs.Common.{◌≡◌, ◌≢◌, ℕ, zero, suc, ◌+◌, ◌≤◌, ◌<◌, ◌==◌, Bool, true, false, nat_lt, if◌then◌else◌, List, [], ◌∷◌, ◌++◌, length, map, filter, Option, Some, None, All, AllPairs, Contains, get_or, refl, sym, ◌∙◌, ap, subst, ⊎_elim, arith, sum_by}
use Rattle.std.proofs.lemmas.Bool.{cases_order, cases_lt, ltb-true, lt-ltb, le-ltb, eq-eqb, ne_eqb}
use Rattle.std.proofs.lemmas.List.{get_or_default}
use Rattle.std.proofs.lemmas.List.Kept.{AllPairs-filter}
use Rattle.std.proofs.lemmas.List.Elements.{All-nil, All-cons, All-head, All-tail, All-append, All-weaker, All-contains, All-filter, filter_passes, All-contains_itself, Contains-append_left, Contains-append_right}
use Rattle.std.proofs.lemmas.List.Sums.{sum_by-cons, sum_by-append}
use Rattle.list_laws.proofs.AllPairsLemmas.{pairs_nil, pairs_cons, pairs_head, pairs_tail}
use Rattle.list_laws.proofs.ContainsLemmas.{later_there}
use Rattle.card_state.specs.Changing.{listed, placed}

-- ---- pairs

pairs_append : {X : Type 0} (R : X → X → Type 0) (xs ys : List X) → AllPairs R xs → AllPairs R ys → All (λ x. All (R x) ys) xs → AllPairs R (xs ++ ys)
pairs_append R [] ys first second across = second
pairs_append R (x ∷ xs) ys first second across =
    pairs_cons R x (xs ++ ys) (All-append (R x) xs ys (pairs_head R x xs first) (All-head (λ z. All (R z) ys) x xs across))
    (pairs_append R xs ys (pairs_tail R x xs first) second (All-tail (λ z. All (R z) ys) x xs across))

-- ---- filters

pub all_filtered : {X : Type 0} (P : X → Type 0) (test : X → Bool) (xs : List X) → ((x : X) → test x ≡ true → Contains xs x → P x) → All P (filter test xs)
all_filtered P test xs each k d low = each (get_or (filter test xs) k d) (filter_passes test xs k d low) (All-filter test (Contains xs) xs (All-contains_itself xs) k d low)

pub contains_filtered : {X : Type 0} (test : X → Bool) (xs : List X) (x : X) (k : ℕ) → k < length xs → get_or xs k x ≡ x → test x ≡ true → Contains (filter test xs) x
contains_filtered test [] x k low is passes = absurd (omega arith)
contains_filtered test (y ∷ ys) x zero low is passes =
    let here : test y ≡ true = ap test is ∙ passes in
    rw here (0, omega arith, is)
contains_filtered test (y ∷ ys) x (suc k) low is passes = by_test (test y) (contains_filtered test ys x k (omega arith) is passes) where
  by_test : (b : Bool) → Contains (filter test ys) x → Contains (if b then y ∷ filter test ys else filter test ys) x
  by_test true rest = later_there y (filter test ys) x rest
  by_test false rest = rest

pub all_from : {X : Type 0} (P : X → Type 0) (xs : List X) → ((x : X) → Contains xs x → P x) → All P xs
all_from P xs each k d low = each (get_or xs k d) (All-contains_itself xs k d low)

-- ---- an element by its number

module _ {X : Type 0} (number_of : X → ℕ) (n : ℕ) (list : List X) where
  abbrev pub below : List X
  below = filter (λ x. nat_lt (number_of x) n) list

  abbrev pub above : List X
  above = filter (λ x. nat_lt n (number_of x)) list

  abbrev pub with_element : Option X → List X
  with_element element = placed number_of n element list

  all_below : (P : X → Type 0) → ((x : X) → number_of x < n → Contains list x → P x) → All P below
  all_below P each = all_filtered P (λ x. nat_lt (number_of x) n) list (λ x passed there. each x (ltb-true (number_of x) n passed) there)

  all_above : (P : X → Type 0) → ((x : X) → n < number_of x → Contains list x → P x) → All P above
  all_above P each = all_filtered P (λ x. nat_lt n (number_of x)) list (λ x passed there. each x (ltb-true n (number_of x) passed) there)

  pub all_others : (P : X → Type 0) → ((x : X) → number_of x ≢ n → Contains list x → P x) → All P (with_element None)
  all_others P each =
      All-append P (below ++ []) above (All-append P below [] (all_below P (λ x low there. each x (λ is. absurd (omega arith)) there)) (All-nil P)) (all_above P (λ x high there. each x (λ is. absurd (omega arith)) there))

  pub all_placed : (P : X → Type 0) (element : X) → ((x : X) → number_of x ≢ n → Contains list x → P x) → P element → All P (with_element (Some element))
  all_placed P element each this =
      All-append P (below ++ element ∷ []) above
      (All-append P below (element ∷ []) (all_below P (λ x low there. each x (λ is. absurd (omega arith)) there)) (All-cons P element [] this (All-nil P)))
      (all_above P (λ x high there. each x (λ is. absurd (omega arith)) there))

  pub other_placed : (element : Option X) (x : X) → Contains list x → number_of x ≢ n → Contains (with_element element) x
  other_placed element x there other =
      ⊎_elim {C = Contains (with_element element) x} (λ same. absurd (other same))
      (λ apart. ⊎_elim {C = Contains (with_element element) x}
      (λ low.
      Contains-append_left (below ++ listed element) above x
      (Contains-append_left below (listed element) x (contains_filtered (λ y. nat_lt (number_of y) n) list x there.0 there.1 there.2 (lt-ltb (number_of x) n low))))
      (λ high. Contains-append_right (below ++ listed element) above x (contains_filtered (λ y. nat_lt n (number_of y)) list x there.0 there.1 there.2 (lt-ltb n (number_of x) high)))
      apart) (cases_order (number_of x) n)

  pub this_placed : (element : X) → Contains (with_element (Some element)) element
  this_placed element = Contains-append_left (below ++ element ∷ []) above element (Contains-append_right below (element ∷ []) element (0, omega arith, refl))

  -- ---- sums over the elements

  module _ (f : X → ℕ) where
    first_counts : (x : X) (ys zs : List X) (b : Bool) (total : ℕ) → sum_by f ys + total ≤ sum_by f zs → sum_by f (if b then x ∷ ys else ys) + total ≤ sum_by f (x ∷ zs)
    first_counts x ys zs true total rest = omega (arith, sum_by-cons f x ys, sum_by-cons f x zs)
    first_counts x ys zs false total rest = omega (arith, sum_by-cons f x zs)

    -- an element stands below or above, or not at all
    sum_apart : (xs : List X) → sum_by f (filter (λ x. nat_lt (number_of x) n) xs) + sum_by f (filter (λ x. nat_lt n (number_of x)) xs) ≤ sum_by f xs
    sum_apart [] = omega arith
    sum_apart (x ∷ xs) =
        let rest = sum_apart xs in
        let lower : List X = filter (λ y. nat_lt (number_of y) n) xs in
        let upper : List X = filter (λ y. nat_lt n (number_of y)) xs in
        ⊎_elim {C = sum_by f (filter (λ y. nat_lt (number_of y) n) (x ∷ xs)) + sum_by f (filter (λ y. nat_lt n (number_of y)) (x ∷ xs)) ≤ sum_by f (x ∷ xs)}
        (λ low.
        let not_above : nat_lt n (number_of x) ≡ false = le-ltb n (number_of x) (omega arith) in
        let same : filter (λ y. nat_lt n (number_of y)) (x ∷ xs) ≡ upper = ap (λ (b : Bool). if b then x ∷ upper else upper) not_above in
        let counted = first_counts x lower xs (nat_lt (number_of x) n) (sum_by f upper) rest in
        omega (arith, ap (sum_by f) same, counted))
        (λ high.
        let not_below : nat_lt (number_of x) n ≡ false = le-ltb (number_of x) n high in
        let same : filter (λ y. nat_lt (number_of y) n) (x ∷ xs) ≡ lower = ap (λ (b : Bool). if b then x ∷ lower else lower) not_below in
        let counted = first_counts x upper xs (nat_lt n (number_of x)) (sum_by f lower) (omega arith) in
        omega (arith, ap (sum_by f) same, counted))
        (cases_lt (number_of x) n)

    -- and so does not the one with this number
    sum_beside : (xs : List X) (old : X) (k : ℕ) → k < length xs → get_or xs k old ≡ old → number_of old ≡ n
        → sum_by f (filter (λ x. nat_lt (number_of x) n) xs) + f old + sum_by f (filter (λ x. nat_lt n (number_of x)) xs) ≤ sum_by f xs
    sum_beside [] old k low there is = absurd (omega arith)
    sum_beside (x ∷ xs) old zero low there is =
        let same : number_of x ≡ n = ap number_of there ∙ is in
        let lower : List X = filter (λ y. nat_lt (number_of y) n) xs in
        let upper : List X = filter (λ y. nat_lt n (number_of y)) xs in
        let not_below : filter (λ y. nat_lt (number_of y) n) (x ∷ xs) ≡ lower = ap (λ (b : Bool). if b then x ∷ lower else lower) (le-ltb (number_of x) n (omega arith)) in
        let not_above : filter (λ y. nat_lt n (number_of y)) (x ∷ xs) ≡ upper = ap (λ (b : Bool). if b then x ∷ upper else upper) (le-ltb n (number_of x) (omega arith)) in
        omega (arith, ap (sum_by f) not_below, ap (sum_by f) not_above, sum_by-cons f x xs, ap f there, sum_apart xs)
    sum_beside (x ∷ xs) old (suc k) low there is =
        let rest = sum_beside xs old k (omega arith) there is in
        let lower : List X = filter (λ y. nat_lt (number_of y) n) xs in
        let upper : List X = filter (λ y. nat_lt n (number_of y)) xs in
        ⊎_elim {C = sum_by f (filter (λ y. nat_lt (number_of y) n) (x ∷ xs)) + f old + sum_by f (filter (λ y. nat_lt n (number_of y)) (x ∷ xs)) ≤ sum_by f (x ∷ xs)}
        (λ below_it.
        let same : filter (λ y. nat_lt n (number_of y)) (x ∷ xs) ≡ upper = ap (λ (b : Bool). if b then x ∷ upper else upper) (le-ltb n (number_of x) (omega arith)) in
        let counted = first_counts x lower xs (nat_lt (number_of x) n) (f old + sum_by f upper) (omega arith) in
        omega (arith, ap (sum_by f) same, counted))
        (λ high.
        let same : filter (λ y. nat_lt (number_of y) n) (x ∷ xs) ≡ lower = ap (λ (b : Bool). if b then x ∷ lower else lower) (le-ltb (number_of x) n high) in
        let counted = first_counts x upper xs (nat_lt n (number_of x)) (sum_by f lower + f old) (omega arith) in
        omega (arith, ap (sum_by f) same, counted))
        (cases_lt (number_of x) n)

    pub sum_without : sum_by f (with_element None) ≤ sum_by f list
    sum_without = omega (arith, sum_by-append f (below ++ []) above, sum_by-append f below [], sum_apart list)

    placed_sum : (element : X) → sum_by f (with_element (Some element)) ≡ sum_by f below + f element + sum_by f above
    placed_sum element = omega (arith, sum_by-append f (below ++ element ∷ []) above, sum_by-append f below (element ∷ []), sum_by-cons f element [])

    pub sum_more : (element : X) → sum_by f (with_element (Some element)) ≤ sum_by f list + f element
    sum_more element = omega (arith, placed_sum element, sum_apart list)

    -- in place of another
    pub sum_same : (element old : X) → Contains list old → number_of old ≡ n → f element ≡ f old → sum_by f (with_element (Some element)) ≤ sum_by f list
    sum_same element old there is same = omega (arith, placed_sum element, sum_beside list old there.0 there.1 there.2 is)

  -- ---- in a list by ascending numbers

  module _ (R : X → X → Type 0) (ascending : (a b : X) → R a b → number_of a < number_of b) (pairs : AllPairs R list) where
    -- of two elements the one with the smaller number comes first
    pub pair_of : (a b : X) → Contains list a → Contains list b → number_of a < number_of b → R a b
    pair_of a b in_a in_b less =
        let at_b : get_or list in_b.0 a ≡ b = get_or_default list in_b.0 a b in_b.1 ∙ in_b.2 in
        ⊎_elim {C = R a b} (λ same. absurd (let equal : a ≡ b = sym in_a.2 ∙ ap (λ (k : ℕ). get_or list k a) same ∙ at_b in omega (arith, ap number_of equal)))
        (λ apart. ⊎_elim {C = R a b}
        (λ before. subst (λ x. R x b) in_a.2 (subst (λ y. R (get_or list in_a.0 a) y) at_b (pairs in_a.0 in_b.0 a before in_b.1)))
        (λ behind.
        let turned : R b a = subst (λ x. R x a) at_b (subst (λ y. R (get_or list in_b.0 a) y) in_a.2 (pairs in_b.0 in_a.0 a behind in_a.1)) in
        absurd (omega (arith, ascending b a turned))) apart)
        (cases_order in_a.0 in_b.0)

    pub same_element : (a b : X) → Contains list a → Contains list b → number_of a ≡ number_of b → a ≡ b
    same_element a b in_a in_b same =
        let at_b : get_or list in_b.0 a ≡ b = get_or_default list in_b.0 a b in_b.1 ∙ in_b.2 in
        ⊎_elim {C = a ≡ b} (λ here. sym in_a.2 ∙ ap (λ (k : ℕ). get_or list k a) here ∙ at_b)
        (λ apart. ⊎_elim {C = a ≡ b}
        (λ before.
        let related : R a b = subst (λ x. R x b) in_a.2 (subst (λ y. R (get_or list in_a.0 a) y) at_b (pairs in_a.0 in_b.0 a before in_b.1)) in
        absurd (omega (arith, ascending a b related)))
        (λ behind.
        let related : R b a = subst (λ x. R x a) at_b (subst (λ y. R (get_or list in_b.0 a) y) in_a.2 (pairs in_b.0 in_a.0 a behind in_a.1)) in
        absurd (omega (arith, ascending b a related))) apart)
        (cases_order in_a.0 in_b.0)

    pairs_filtered : (test : X → Bool) → AllPairs R (filter test list)
    pairs_filtered test = AllPairs-filter R test list pairs

    across : All (λ a. All (R a) above) below
    across = all_below (λ a. All (R a) above) (λ a low in_a. all_above (R a) (λ b high in_b. pair_of a b in_a in_b (omega arith)))

    pub pairs_without : AllPairs R (with_element None)
    pairs_without =
        pairs_append R (below ++ []) above (pairs_append R below [] (pairs_filtered (λ x. nat_lt (number_of x) n)) (pairs_nil R) (all_below (λ x. All (R x) []) (λ x low there. All-nil (R x))))
        (pairs_filtered (λ x. nat_lt n (number_of x))) (All-append (λ a. All (R a) above) below [] across (All-nil (λ a. All (R a) above)))

    pub pairs_placed : (element : X) → ((x : X) → Contains list x → number_of x < n → R x element) → ((x : X) → Contains list x → n < number_of x → R element x) → AllPairs R (with_element (Some element))
    pairs_placed element first second =
        pairs_append R (below ++ element ∷ []) above
        (pairs_append R below (element ∷ []) (pairs_filtered (λ x. nat_lt (number_of x) n)) (pairs_cons R element [] (All-nil (R element)) (pairs_nil R))
        (all_below (λ x. All (R x) (element ∷ [])) (λ x low there. All-cons (R x) element [] (first x there low) (All-nil (R x)))))
        (pairs_filtered (λ x. nat_lt n (number_of x)))
        (All-append (λ a. All (R a) above) below (element ∷ []) across
        (All-cons (λ a. All (R a) above) element [] (all_above (R element) (λ x high there. second x there high)) (All-nil (λ a. All (R a) above))))

-- an element that is there in the place of which another is put
module _ {X : Type 0} (number_of : X → ℕ) (n : ℕ) (change : X → X) (R : X → X → Type 0) (ascending : (a b : X) → R a b → number_of a < number_of b) where
  abbrev changed : X → X
  changed x = if number_of x == n then change x else x

  none_below : (xs : List X) → All (λ x. n < number_of x) xs → filter (λ x. nat_lt (number_of x) n) xs ≡ []
  none_below [] high = refl
  none_below (x ∷ xs) high =
      let rest : filter (λ y. nat_lt (number_of y) n) xs ≡ [] = none_below xs (All-tail (λ y. n < number_of y) x xs high) in
      let failed : nat_lt (number_of x) n ≡ false = le-ltb (number_of x) n (omega (arith, All-head (λ y. n < number_of y) x xs high)) in
      rw failed rest

  all_above_it : (xs : List X) → All (λ x. n < number_of x) xs → filter (λ x. nat_lt n (number_of x)) xs ≡ map changed xs
  all_above_it [] high = refl
  all_above_it (x ∷ xs) high =
      let here : n < number_of x = All-head (λ y. n < number_of y) x xs high in
      let rest : filter (λ y. nat_lt n (number_of y)) xs ≡ map changed xs = all_above_it xs (All-tail (λ y. n < number_of y) x xs high) in
      let passed : nat_lt n (number_of x) ≡ true = lt-ltb n (number_of x) here in
      let missed : (number_of x == n) ≡ false = ne_eqb (number_of x) n (λ is. omega arith) in
      rw (passed, missed) (ap (λ ys. x ∷ ys) rest)

  placed_at : (xs : List X) (k : ℕ) (x : X) → AllPairs R xs → k < length xs → get_or xs k x ≡ x → number_of x ≡ n → placed number_of n (Some (change x)) xs ≡ map changed xs
  placed_at [] k x pairs low there is = absurd (omega arith)
  placed_at (y ∷ ys) zero x pairs low there is =
      let here : number_of y ≡ n = ap number_of there ∙ is in
      let upper : List X = filter (λ z. nat_lt n (number_of z)) ys in
      let above : All (λ z. n < number_of z) ys = All-weaker (R y) (λ z. n < number_of z) (λ z r. omega (arith, ascending y z r)) ys (pairs_head R y ys pairs) in
      let not_below : nat_lt (number_of y) n ≡ false = le-ltb (number_of y) n (omega arith) in
      let not_above : nat_lt n (number_of y) ≡ false = le-ltb n (number_of y) (omega arith) in
      let hit : (number_of y == n) ≡ true = eq-eqb (number_of y) n here in
      rw (not_below, not_above, hit)
      (ap (λ list. list ++ change x ∷ [] ++ upper) (none_below ys above) ∙ ap (λ z. change z ∷ upper) (sym there) ∙ ap (λ list. change y ∷ list) (all_above_it ys above))
  placed_at (y ∷ ys) (suc k) x pairs low there is =
      let less : number_of y < n = omega (arith, ascending y x (All-contains (R y) ys x (pairs_head R y ys pairs) (k, omega arith, there))) in
      let rest : placed number_of n (Some (change x)) ys ≡ map changed ys = placed_at ys k x (pairs_tail R y ys pairs) (omega arith) there is in
      let below : nat_lt (number_of y) n ≡ true = lt-ltb (number_of y) n less in
      let not_above : nat_lt n (number_of y) ≡ false = le-ltb n (number_of y) (omega arith) in
      let missed : (number_of y == n) ≡ false = ne_eqb (number_of y) n (λ same. omega arith) in
      rw (below, not_above, missed) (ap (λ list. y ∷ list) rest)

  pub placed_is_changed : (xs : List X) (x : X) → AllPairs R xs → Contains xs x → number_of x ≡ n → placed number_of n (Some (change x)) xs ≡ map changed xs
  placed_is_changed xs x pairs there is = placed_at xs there.0 x pairs there.1 there.2 is
