-- A shelf that is taken out where it stands first.
use Rattle.std.proofs.Common.{◌≡◌, refl, sym, ap, ◌∙◌, ℕ, suc, ◌+◌, ◌-◌, ◌≤◌, ◌<◌, Bool, true, false, cond, List, [], ◌∷◌, map, remove, length, arith, Option, Some, None, subst, ◌==◌, IfSome}
use Rattle.std.specs.List.{position_from}
use Rattle.uicc_types.specs.declared.identifiers.Shelf.{Shelf}
use Rattle.event_dispatch.specs.Indexes.{left_by}

abbrev pub numbers : List Shelf → List ℕ
numbers shelves = map (λ shelf. shelf.0) shelves

-- without the one at a place, if there is one, where the first has place k
abbrev pub without_at : ℕ → Option ℕ → List ℕ → List ℕ
without_at k None shelves = shelves
without_at k (Some at) shelves = remove shelves (at - k)

abbrev pub IsPlace : ℕ → ℕ → Option ℕ → Type 0
IsPlace k count found = IfSome found (λ at. (k ≤ at) × (at < k + count))

one_more : (k count : ℕ) (found : Option ℕ) → IsPlace (k + 1) count found → (b : Bool) → IsPlace k (suc count) (cond b (Some k) found)
one_more k count found is true = (omega arith, omega arith)
one_more k count None is false = tt
one_more k count (Some at) is false = (omega (arith, is.0), omega (arith, is.1))

module _ (s : ℕ) where
  abbrev is_it : Shelf → Bool
  is_it other = other.0 == s

  pub place_is : (k : ℕ) (shelves : List Shelf) → IsPlace k (length shelves) (position_from is_it k shelves)
  place_is k [] = tt
  place_is k (x ∷ xs) = one_more k (length xs) (position_from is_it (k + 1) xs) (place_is (k + 1) xs) (is_it x)

  leaves : (k first : ℕ) (others left : List ℕ) (count : ℕ) (found : Option ℕ) → IsPlace (k + 1) count found → without_at (k + 1) found others ≡ left → (b : Bool)
      → without_at k (cond b (Some k) found) (first ∷ others) ≡ cond b others (first ∷ left)
  leaves k first others left count found is e true = let here : k - k ≡ 0 = omega arith in ap (λ (at : ℕ). remove (first ∷ others) at) here
  leaves k first others left count None is e false = ap (λ (rest : List ℕ). first ∷ rest) e
  leaves k first others left count (Some at) is e false =
      let next : at - k ≡ suc (at - (k + 1)) = omega (arith, is.0) in
      ap (λ (at : ℕ). remove (first ∷ others) at) next ∙ ap (λ (rest : List ℕ). first ∷ rest) e

  pub left_is : (k : ℕ) (shelves : List Shelf) → without_at k (position_from is_it k shelves) (numbers shelves) ≡ left_by s (numbers shelves)
  left_is k [] = refl
  left_is k (x ∷ xs) = leaves k x.0 (numbers xs) (left_by s (numbers xs)) (length xs) (position_from is_it (k + 1) xs) (place_is (k + 1) xs) (left_is (k + 1) xs) (is_it x)

  pub place_found : (shelves : List Shelf) (at : ℕ) → position_from is_it 0 shelves ≡ Some at → at < length shelves
  place_found shelves at is =
      let found : IsPlace 0 (length shelves) (Some at) = subst (IsPlace 0 (length shelves)) is (place_is 0 shelves) in
      omega (arith, found.1)

  pub left_found : (shelves : List Shelf) (at : ℕ) → position_from is_it 0 shelves ≡ Some at → remove (numbers shelves) at ≡ left_by s (numbers shelves)
  left_found shelves at is =
      let here : at ≡ at - 0 = omega arith in
      ap (λ (k : ℕ). remove (numbers shelves) k) here ∙ ap (λ (found : Option ℕ). without_at 0 found (numbers shelves)) (sym is) ∙ left_is 0 shelves

  pub left_none : (shelves : List Shelf) → position_from is_it 0 shelves ≡ None → numbers shelves ≡ left_by s (numbers shelves)
  left_none shelves is = ap (λ (found : Option ℕ). without_at 0 found (numbers shelves)) (sym is) ∙ left_is 0 shelves
