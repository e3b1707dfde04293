-- What holds of each two elements of a list, the earlier one first.
use Rattle.std.proofs.Common.{zero, suc, List, [], ◌∷◌, map, arith, All, AllPairs}
use Rattle.std.proofs.lemmas.List.Elements.{All-map}
use Rattle.list_laws.proofs.MapLemmas.{all_unmapped}

pub pairs_nil : {X : Type 0} (R : X → X → Type 0) → AllPairs R []
pairs_nil R i j d less low = absurd (omega arith)

pub pairs_cons : {X : Type 0} (R : X → X → Type 0) (x : X) (xs : List X) → All (R x) xs → AllPairs R xs → AllPairs R (x ∷ xs)
pairs_cons R x xs first rest zero zero d less low = absurd (omega arith)
pairs_cons R x xs first rest zero (suc j) d less low = first j d (omega arith)
pairs_cons R x xs first rest (suc i) zero d less low = absurd (omega arith)
pairs_cons R x xs first rest (suc i) (suc j) d less low = rest i j d (omega arith) (omega arith)

pub pairs_head : {X : Type 0} (R : X → X → Type 0) (x : X) (xs : List X) → AllPairs R (x ∷ xs) → All (R x) xs
pairs_head R x xs pairs k d low = pairs 0 (suc k) d (omega arith) (omega arith)

pub pairs_tail : {X : Type 0} (R : X → X → Type 0) (x : X) (xs : List X) → AllPairs R (x ∷ xs) → AllPairs R xs
pairs_tail R x xs pairs i j d less low = pairs (suc i) (suc j) d (omega arith) (omega arith)

-- a relation of what stands for the elements
pub pairs_map : {X Y : Type 0} (R : Y → Y → Type 0) (f : X → Y) (xs : List X) → AllPairs (λ a b. R (f a) (f b)) xs → AllPairs R (map f xs)
pairs_map R f [] pairs = pairs_nil R
pairs_map R f (x ∷ xs) pairs =
    pairs_cons R (f x) (map f xs) (All-map (R (f x)) f xs (pairs_head (λ a b. R (f a) (f b)) x xs pairs)) (pairs_map R f xs (pairs_tail (λ a b. R (f a) (f b)) x xs pairs))

pub pairs_unmap : {X Y : Type 0} (R : Y → Y → Type 0) (f : X → Y) (xs : List X) → AllPairs R (map f xs) → AllPairs (λ a b. R (f a) (f b)) xs
pairs_unmap R f [] pairs = pairs_nil (λ a b. R (f a) (f b))
pairs_unmap R f (x ∷ xs) pairs =
    pairs_cons (λ a b. R (f a) (f b)) x xs (all_unmapped (R (f x)) f xs (pairs_head R (f x) (map f xs) pairs)) (pairs_unmap R f xs (pairs_tail R (f x) (map f xs) pairs))
