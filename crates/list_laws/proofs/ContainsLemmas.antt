-- What stands in a list, and what holds of it there.
use Rattle.std.proofs.Common.{◌≡◌, ℕ, zero, suc, Bool, true, false, cond, List, [], ◌∷◌, refl, sym, ap, ◌∙◌, subst, ⊎_elim, arith, ◌≢◌, ◌==◌, ◌++◌, filter, All, Contains}
use Rattle.std.specs.List.{list_any}
use Rattle.std.proofs.lemmas.Bool.{false≢true, eqb-true, or_cases}
use Rattle.std.proofs.lemmas.List.Elements.{All-nil, All-cons, All-head, All-tail, All-contains, All-filter, All-contains_itself}

pub first_there : {X : Type 0} (x : X) (xs : List X) → Contains (x ∷ xs) x
first_there x xs = (0, omega arith, refl)

pub later_there : {X : Type 0} (y : X) (xs : List X) (x : X) → Contains xs x → Contains (y ∷ xs) x
later_there y xs x there = (suc there.0, omega (arith, there.1), there.2)

pub only_there : {X : Type 0} (x y : X) → Contains (x ∷ []) y → x ≡ y
only_there x y (zero, low, is) = is
only_there x y (suc k, low, is) = absurd (omega arith)

-- what isn't the first stands after it
pub in_rest : {X : Type 0} (y : X) (xs : List X) (x : X) → y ≢ x → Contains (y ∷ xs) x → Contains xs x
in_rest y xs x other (zero, low, is) = absurd (other is)
in_rest y xs x other (suc k, low, is) = (k, omega (arith, low), is)

-- a number that a test finds
pub number_there : (numbers : List ℕ) (number : ℕ) → list_any (λ other. other == number) numbers ≡ true → Contains numbers number
number_there [] number found = absurd (false≢true found)
number_there (first ∷ numbers) number found =
    ⊎_elim {C = Contains (first ∷ numbers) number} (λ here. (0, omega arith, eqb-true first number here)) (λ later. later_there first numbers number (number_there numbers number later))
    (or_cases (first == number) (list_any (λ other. other == number) numbers) found)

-- ---- what a filter keeps

pub kept_there : {X : Type 0} (p : X → Bool) (xs : List X) (x : X) → Contains xs x → p x ≡ true → Contains (filter p xs) x
kept_there p [] x there passes = absurd (omega (arith, there.1))
kept_there p (y ∷ ys) x (zero, low, same) passes =
    subst (Contains (filter p (y ∷ ys))) same (subst (λ (b : Bool). Contains (cond b (y ∷ filter p ys) (filter p ys)) y) (sym (ap p same ∙ passes)) (first_there y (filter p ys)))
kept_there p (y ∷ ys) x (suc k, low, same) passes = over (p y) (kept_there p ys x (k, omega (arith, low), same) passes) where
  over : (b : Bool) → Contains (filter p ys) x → Contains (cond b (y ∷ filter p ys) (filter p ys)) x
  over true there = later_there y (filter p ys) x there
  over false there = there

pub of_filtered : {X : Type 0} (p : X → Bool) (xs : List X) (x : X) → Contains (filter p xs) x → Contains xs x
of_filtered p xs x there = All-contains (Contains xs) (filter p xs) x (All-filter p (Contains xs) xs (All-contains_itself xs)) there

-- ---- what holds of the elements of two lists, one after the other

pub front_of : {X : Type 0} (P : X → Type 0) (front back : List X) → All P (front ++ back) → All P front
front_of P [] back all = All-nil P
front_of P (x ∷ front) back all = All-cons P x front (All-head P x (front ++ back) all) (front_of P front back (All-tail P x (front ++ back) all))

pub back_of : {X : Type 0} (P : X → Type 0) (front back : List X) → All P (front ++ back) → All P back
back_of P [] back all = all
back_of P (x ∷ front) back all = back_of P front back (All-tail P x (front ++ back) all)
