-- Lists of frames that are all short, and one of them taken out.
use Rattle.std.proofs.Common.{◌≡◌, refl, ap, ◌∙◌, Bool, false, ◌+◌, ◌<◌, ℕ, zero, suc, ◌*◌, ◌≤◌, List, [], ◌∷◌, length, take, drop, map, remove, All, arith, ◌||◌, slice_index_or}
use Rattle.std.proofs.lemmas.List.Sums.{sum_by-cons}
use Rattle.std.proofs.lemmas.List.Elements.{All-take, All-drop, All-append}
use Rattle.std.specs.List.{list_any}
use Rattle.frame_store.specs.Model.{bytes_in}
use Rattle.event_dispatch.specs.Frames.{IsTriggerFrame}

-- the bytes of triggers
pub few_bytes : (parts : List (List ℕ)) → All IsTriggerFrame parts → bytes_in parts ≤ length parts * 257
few_bytes [] all = omega arith
few_bytes (p ∷ parts) all =
    let first = (all 0 [] (omega arith)).ends in
    let rest = few_bytes parts (λ j d inside. all (suc j) d (omega (arith, inside))) in
    omega (arith, sum_by-cons (λ k. k) (length p) (map length parts), first, rest)

pub All-remove : {X : Type 0} (P : X → Type 0) (xs : List X) (i : ℕ) → All P xs → All P (remove xs i)
All-remove P xs i all = All-append P (take i xs) (drop (suc i) xs) (All-take P i xs all) (All-drop P (suc i) xs all)

-- one passes of the frames from a place on where that at the place does, or one after it
next_any : (p : List ℕ → Bool) (parts : List (List ℕ)) (at : ℕ) → at < length parts → list_any p (drop at parts) ≡ (p (slice_index_or parts at []) || list_any p (drop (suc at) parts))
next_any p [] at low = grind (arith, low)
next_any p (part ∷ parts) zero low = refl
next_any p (part ∷ parts) (suc at) low = next_any p parts at (omega (arith, low))

pub any_from : (p : List ℕ → Bool) (parts : List (List ℕ)) (at : ℕ) → at < length parts → list_any p (drop at parts) ≡ (p (slice_index_or parts at []) || list_any p (drop (at + 1) parts))
any_from p parts at low = next_any p parts at low ∙ ap (λ (n : ℕ). p (slice_index_or parts at []) || list_any p (drop n parts)) one_more where
  one_more : suc at ≡ at + 1
  one_more = omega arith

pub any_past : (p : List ℕ → Bool) (parts : List (List ℕ)) (at : ℕ) → length parts ≤ at → list_any p (drop at parts) ≡ false
any_past p [] zero past = refl
any_past p [] (suc at) past = refl
any_past p (part ∷ parts) zero past = grind (arith, past)
any_past p (part ∷ parts) (suc at) past = any_past p parts at (omega (arith, past))

pub any_map : {X Y : Type 0} (f : X → Y) (p : Y → Bool) (xs : List X) → list_any p (map f xs) ≡ list_any (λ x. p (f x)) xs
any_map f p [] = refl
any_map f p (x ∷ xs) = ap (λ b. p (f x) || b) (any_map f p xs)
