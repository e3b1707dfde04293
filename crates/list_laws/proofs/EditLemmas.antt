-- A list with one element taken out, and one that is put over another from its front on.
use Rattle.std.proofs.Common.{get_or, set, ◌≡◌, ℕ, zero, suc, ◌+◌, ◌<◌, List, [], ◌∷◌, length, take, drop, map, refl, ap, arith, ◌++◌, remove}

pub map-remove : {X Y : Type 0} (f : X → Y) (xs : List X) (i : ℕ) → map f (remove xs i) ≡ remove (map f xs) i
map-remove f [] zero = refl
map-remove f [] (suc i) = refl
map-remove f (x ∷ xs) zero = refl
map-remove f (x ∷ xs) (suc i) = ap (λ ys. f x ∷ ys) (map-remove f xs i)

-- one more of the first list is put over the second
pub set_more : {X : Type 0} (front back : List X) (k : ℕ) (d : X) → length front ≡ length back → k < length back → set (take k front ++ drop k back) k (get_or front k d) ≡ take (k + 1) front ++ drop (k + 1) back
set_more front [] k d same low = absurd (omega (arith, low))
set_more [] (y ∷ back) k d same low = absurd (omega (arith, same))
set_more (x ∷ front) (y ∷ back) zero d same low = refl
set_more (x ∷ front) (y ∷ back) (suc k) d same low =
    let next : suc k + 1 ≡ suc (k + 1) = omega arith in
    rw next (ap (λ list. x ∷ list) (set_more front back k d (omega (arith, same)) (omega (arith, low))))
