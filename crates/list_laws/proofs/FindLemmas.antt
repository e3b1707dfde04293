-- The first element of a list that passes a test.
use Rattle.std.proofs.Common.{◌≡◌, ℕ, zero, suc, ◌<◌, Bool, true, false, cond, List, [], ◌∷◌, map, refl, ◌∙◌, ap, subst, arith, ◌==◌, ◌&&◌, ◌++◌, filter, find, slice_get, Contains, AllPairs, Option, Some, None, option_map, eq-eqb, ne_eqb}
use Rattle.std.specs.Option.{option_or}
use Rattle.std.proofs.lemmas.Option.{same_Some}
use Rattle.list_laws.proofs.AllPairsLemmas.{pairs_head, pairs_tail}

mapped_cond : {X Y : Type 0} (f : X → Y) (b : Bool) (x : X) (o : Option X) → cond b (Some (f x)) (option_map f o) ≡ option_map f (cond b (Some x) o)
mapped_cond f true x o = refl
mapped_cond f false x o = refl

-- what is found in a mapped list is what stands for the one that is found in the list
pub find-map : {X Y : Type 0} (p : Y → Bool) (f : X → Y) (xs : List X) → find p (map f xs) ≡ option_map f (find (λ x. p (f x)) xs)
find-map p f [] = refl
find-map p f (x ∷ xs) = ap (λ o. cond (p (f x)) (Some (f x)) o) (find-map p f xs) ∙ mapped_cond f (p (f x)) x (find (λ y. p (f y)) xs)

-- tests that agree find the same
pub find_alike : {X : Type 0} (p q : X → Bool) (xs : List X) → ((x : X) → p x ≡ q x) → find p xs ≡ find q xs
find_alike p q [] alike = refl
find_alike p q (x ∷ xs) alike = ap (λ b. cond b (Some x) (find p xs)) (alike x) ∙ ap (λ o. cond (q x) (Some x) o) (find_alike p q xs alike)

found_of : {X : Type 0} (p : X → Bool) (y x : X) (xs : List X) (b : Bool) → p y ≡ b → (find p xs ≡ Some x → Contains xs x × (p x ≡ true)) → cond b (Some y) (find p xs) ≡ Some x
    → Contains (y ∷ xs) x × (p x ≡ true)
found_of p y x xs true passes rest is = ((0, omega arith, same_Some _ _ is), subst (λ z. p z ≡ true) (same_Some _ _ is) passes)
found_of p y x xs false passes rest is = let found = rest is in ((suc found.0.0, omega (arith, found.0.1), found.0.2), found.1)

-- what is found stands in the list and passes
pub find_Some : {X : Type 0} (p : X → Bool) (xs : List X) (x : X) → find p xs ≡ Some x → Contains xs x × (p x ≡ true)
find_Some p [] x is = cc
find_Some p (y ∷ xs) x is = found_of p y x xs (p y) refl (find_Some p xs x) is

-- where numbers ascend, each element is the first one with its number
pub numbered_found : {X : Type 0} (number : X → ℕ) (xs : List X) (x : X) → AllPairs (λ a b. number a < number b) xs → Contains xs x → find (λ y. number y == number x) xs ≡ Some x
numbered_found number [] x ascend there = absurd (omega (arith, there.1))
numbered_found number (y ∷ xs) x ascend (zero, low, is) =
    ap (λ b. cond b (Some y) (find (λ z. number z == number x) xs)) (eq-eqb (number y) (number x) (ap number is)) ∙ ap (λ z. Some z) is
numbered_found number (y ∷ xs) x ascend (suc k, low, is) =
    let rest : Contains xs x = (k, omega (arith, low), is) in
    let less : number y < number x = subst (λ z. number y < number z) is (pairs_head (λ a b. number a < number b) y xs ascend k x (omega (arith, low))) in
    ap (λ b. cond b (Some y) (find (λ z. number z == number x) xs)) (ne_eqb (number y) (number x) (λ same. omega (arith, less, same)))
    ∙ numbered_found number xs x (pairs_tail (λ a b. number a < number b) y xs ascend) rest

filtered : {X : Type 0} (p q : X → Bool) (x : X) (xs : List X) (b : Bool) (o : Option X) → find p (filter q xs) ≡ o → find p (cond b (x ∷ filter q xs) (filter q xs)) ≡ cond (b && p x) (Some x) o
filtered p q x xs true o rest = ap (λ r. cond (p x) (Some x) r) rest
filtered p q x xs false o rest = rest

-- the first one of those that pass another test
pub find-filter : {X : Type 0} (p q : X → Bool) (xs : List X) → find p (filter q xs) ≡ find (λ x. q x && p x) xs
find-filter p q [] = refl
find-filter p q (x ∷ xs) = filtered p q x xs (q x) (find (λ y. q y && p y) xs) (find-filter p q xs)

first_filtered : {X : Type 0} (p : X → Bool) (x : X) (xs : List X) (b : Bool) (o : Option X) → slice_get (filter p xs) 0 ≡ o → slice_get (cond b (x ∷ filter p xs) (filter p xs)) 0 ≡ cond b (Some x) o
first_filtered p x xs true o rest = refl
first_filtered p x xs false o rest = rest

-- the first of those that pass
pub first-filter : {X : Type 0} (p : X → Bool) (xs : List X) → slice_get (filter p xs) 0 ≡ find p xs
first-filter p [] = refl
first-filter p (x ∷ xs) = first_filtered p x xs (p x) (find p xs) (first-filter p xs)

-- the first of two lists, one after the other
pub first-append : {X : Type 0} (xs ys : List X) → slice_get (xs ++ ys) 0 ≡ option_or (slice_get xs 0) (slice_get ys 0)
first-append [] ys = refl
first-append (x ∷ xs) ys = refl

pub option_or_assoc : {X : Type 0} (a b c : Option X) → option_or (option_or a b) c ≡ option_or a (option_or b c)
option_or_assoc None b c = refl
option_or_assoc (Some x) b c = refl
