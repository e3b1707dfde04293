-- Lists whose elements are told by their numbers.
use Rattle.std.proofs.Common.{get_or, set, ◌≡◌, ℕ, ◌<◌, List, [], ◌∷◌, length, map, replicate, refl, sym, ◌∙◌, ap, subst, ⊎_elim, arith, ◌≢◌, All, Contains}
use Rattle.std.specs.List.{range_with_len}
use Rattle.std.proofs.lemmas.Bool.{cases_eq}
use Rattle.std.proofs.lemmas.Grind.{get_or-set_at}
use Rattle.std.proofs.lemmas.List.{same_lists, length-set, get_or-set_other, length-replicate, get_or-replicate, length-map, get_or-map}
use Rattle.std.proofs.lemmas.List.Elements.{All-head, All-tail}
use Rattle.std.proofs.lemmas.List.FromFn.{length-map-range_with_len, get_or-map-range_with_len}

-- two functions that agree below a count make one list of the numbers below it
pub same_numbered : {X : Type 0} (f g : ℕ → X) (count : ℕ) → ((k : ℕ) → k < count → f k ≡ g k) → map f (range_with_len 0 count) ≡ map g (range_with_len 0 count)
same_numbered f g count each =
    let first = length-map-range_with_len f 0 count in
    same_lists (map f (range_with_len 0 count)) (map g (range_with_len 0 count)) (first ∙ sym (length-map-range_with_len g 0 count))
    (λ k d h.
    let low : k < count = omega (arith, first) in
    get_or-map-range_with_len f 0 count k k d low (omega arith) ∙ each k low ∙ sym (get_or-map-range_with_len g 0 count k k d low (omega arith)))

-- two functions that agree but for one number make lists that differ there alone
pub set_numbered : {X : Type 0} (f g : ℕ → X) (count at : ℕ) (x : X) → at < count → g at ≡ x → ((k : ℕ) → k < count → k ≢ at → g k ≡ f k)
    → map g (range_with_len 0 count) ≡ set (map f (range_with_len 0 count)) at x
set_numbered f g count at x inside is others =
    let before = map f (range_with_len 0 count) in
    let first : length before ≡ count = length-map-range_with_len f 0 count in
    let second : length (map g (range_with_len 0 count)) ≡ count = length-map-range_with_len g 0 count in
    let there : at < length before = omega arith in
    same_lists (map g (range_with_len 0 count)) (set before at x) (second ∙ sym first ∙ sym (length-set before at x))
    (λ k d h.
    let low : k < count = omega arith in
    let now = get_or-map-range_with_len g 0 count k k d low (omega arith) in
    ⊎_elim {C = get_or (map g (range_with_len 0 count)) k d ≡ get_or (set before at x) k d}
    (λ same. now ∙ ap g same ∙ is ∙ sym (get_or-set_at before at k x d same there))
    (λ other. now ∙ others k low other ∙ sym (get_or-set_other before at k x d other ∙ get_or-map-range_with_len f 0 count k k d low (omega arith)))
    (cases_eq k at))

-- a list whose elements are all the same
pub all_alike : {X : Type 0} (xs : List X) (count : ℕ) (x : X) → length xs ≡ count → ((k : ℕ) (d : X) → k < count → get_or xs k d ≡ x) → xs ≡ replicate count x
all_alike xs count x long each =
    same_lists xs (replicate count x) (long ∙ sym (length-replicate count x)) (λ k d h. each k d (omega arith) ∙ sym (get_or-replicate count k x d (omega arith)))

-- what stands for an element stands in the mapped list
pub mapped_too : {X Y : Type 0} (f : X → Y) (xs : List X) (x : X) → Contains xs x → Contains (map f xs) (f x)
mapped_too f xs x there = (there.0, omega (arith, there.1, length-map xs f), get_or-map f xs there.0 x (f x) there.1 ∙ ap f there.2)

-- what holds of each element of the mapped list holds of what each element stands for
pub all_unmapped : {X Y : Type 0} (P : Y → Type 0) (f : X → Y) (xs : List X) → All P (map f xs) → All (λ x. P (f x)) xs
all_unmapped P f xs all k d low = subst P (get_or-map f xs k d (f d) low) (all k (f d) (omega (arith, low, length-map xs f)))

-- two maps give the same list where they give the same of each element
pub same_mapped : {X Y : Type 0} (f g : X → Y) (xs : List X) → All (λ x. f x ≡ g x) xs → map f xs ≡ map g xs
same_mapped f g [] each = refl
same_mapped f g (x ∷ xs) each = ap (λ y. y ∷ map f xs) (All-head (λ e. f e ≡ g e) x xs each) ∙ ap (λ ys. g x ∷ ys) (same_mapped f g xs (All-tail (λ e. f e ≡ g e) x xs each))

-- nothing comes of nothing alone
pub nil_mapped : {X Y : Type 0} (f : X → Y) (xs : List X) → map f xs ≡ [] → xs ≡ []
nil_mapped f [] is = refl
nil_mapped f (x ∷ xs) is = cc is
