-- One place of a list.
use Rattle.std.proofs.Common.{◌≡◌, ℕ, zero, suc, ◌<◌, Bool, List, [], ◌∷◌, length, get_or, set, Some, position}
use Rattle.std.proofs.lemmas.List.Quantifiers.{position-Some}

pub found_below : {X : Type 0} (p : X → Bool) (xs : List X) (place : ℕ) → position p xs ≡ Some place → place < length xs
found_below p [] place found = cc
found_below p (x ∷ xs) place found = (position-Some p (x ∷ xs) place x found).0

-- what holds at each place holds there once one element was replaced
pub each_set : {X : Type 0} (P : X → Type 0) (xs : List X) (at : ℕ) (y d : X) → P y → ((place : ℕ) → P (get_or xs place d)) → (place : ℕ) → P (get_or (set xs at y) place d)
each_set P [] at y d here all place = all place
each_set P (x ∷ xs) zero y d here all zero = here
each_set P (x ∷ xs) zero y d here all (suc place) = all (suc place)
each_set P (x ∷ xs) (suc at) y d here all zero = all zero
each_set P (x ∷ xs) (suc at) y d here all (suc place) = each_set P xs at y d here (λ k. all (suc k)) place
