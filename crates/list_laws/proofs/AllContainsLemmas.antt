-- What holds of all elements of a list, or of all pairs, holds of those that it contains.
use Rattle.std.proofs.Common.{◌≡◌, ◌⊎◌, ℕ, List, All, AllPairs, Contains, get_or, ◌∙◌, ap, inl, inr, ⊎_elim, subst}
use Rattle.std.proofs.lemmas.Bool.{cases_order}
use Rattle.std.proofs.lemmas.List.{get_or_default}

-- an element that a list contains has what all its elements have
pub contained : {X : Type 0} (P : X → Type 0) (xs : List X) (x : X) → All P xs → Contains xs x → P x
contained P xs x each there = subst P there.2 (each there.0 x there.1)

-- in a list of which each element stands so to all later ones, each element is this one, or stands so to it, or it to that
pub beside : {X : Type 0} (R : X → X → Type 0) (xs : List X) (x : X) → AllPairs R xs → Contains xs x → All (λ y. ((R y x) ⊎ (R x y)) ⊎ (y ≡ x)) xs
beside R xs x pairs there k d low =
    let is : get_or xs there.0 d ≡ x = get_or_default xs there.0 d x there.1 ∙ there.2 in
    ⊎_elim {C = ((R (get_or xs k d) x) ⊎ (R x (get_or xs k d))) ⊎ (get_or xs k d ≡ x)}
    (λ same. inr (ap (λ (n : ℕ). get_or xs n d) same ∙ is))
    (λ other. ⊎_elim {C = ((R (get_or xs k d) x) ⊎ (R x (get_or xs k d))) ⊎ (get_or xs k d ≡ x)}
    (λ before. inl (inl (subst (λ y. R (get_or xs k d) y) is (pairs k there.0 d before there.1))))
    (λ behind. inl (inr (subst (λ y. R y (get_or xs k d)) is (pairs there.0 k d behind low)))) other)
    (cases_order k there.0)
