-- Lists that are made from the numbers of a range: those that pass a test, in their order, each with what stands for it.
use Rattle.std.proofs.Common.{zero, suc, ◌≡◌, ℕ, ◌+◌, ◌≤◌, ◌<◌, Bool, true, false, cond, List, ◌∷◌, map, refl, sym, ◌∙◌, ap, subst, ⊎_elim, arith, filter, All, AllPairs, Contains}
use Rattle.std.specs.List.{range_with_len, enumerate_from, count_by}
use Rattle.std.proofs.lemmas.Bool.{cases_eq, cases_Bool}
use Rattle.std.proofs.lemmas.List.FromFn.{length-map-range_with_len, get_or-map-range_with_len}
use Rattle.std.proofs.lemmas.List.Sums.{sum_by-cons}
use Rattle.std.proofs.lemmas.List.Elements.{All-nil, All-cons, All-head, All-tail, All-contains, All-contains_itself}
use Rattle.list_laws.proofs.AllPairsLemmas.{pairs_nil, pairs_cons, pairs_head, pairs_tail}

-- ---- what holds of each number of a range

module _ {X : Type 0} (P : X → Type 0) where
  pub each_number : (of : ℕ → X) (count : ℕ) → All P (map of (range_with_len 0 count)) → (k : ℕ) → k < count → P (of k)
  each_number of count all k low =
      subst P (get_or-map-range_with_len of 0 count k k (of k) low (omega arith)) (all k (of k) (omega (arith, length-map-range_with_len of 0 count)))

  pub all_numbers : (of : ℕ → X) (count : ℕ) → ((k : ℕ) → k < count → P (of k)) → All P (map of (range_with_len 0 count))
  all_numbers of count each k d low =
      let low_number : k < count = omega (arith, length-map-range_with_len of 0 count) in
      subst P (sym (get_or-map-range_with_len of 0 count k k d low_number (omega arith))) (each k low_number)

-- ---- what is kept of a range

module _ {X : Type 0} (g : ℕ → X) (keep : ℕ → Bool) where
  abbrev pub kept : ℕ → ℕ → List X
  kept from count = map g (filter keep (range_with_len from count))

  kept_cons : (from count : ℕ) → kept from (suc count) ≡ cond (keep from) (g from ∷ kept (from + 1) count) (kept (from + 1) count)
  kept_cons from count = elim (keep from) as (λ b. map g (cond b (from ∷ filter keep (range_with_len (from + 1) count)) (filter keep (range_with_len (from + 1) count))) ≡ cond b (g from ∷ kept (from + 1) count) (kept (from + 1) count)) [ true ↦ refl | false ↦ refl ]

  kept_first : (from count : ℕ) → keep from ≡ true → kept from (suc count) ≡ g from ∷ kept (from + 1) count
  kept_first from count is = rw (kept_cons from count, is) refl

  kept_not : (from count : ℕ) → keep from ≡ false → kept from (suc count) ≡ kept (from + 1) count
  kept_not from count is = rw (kept_cons from count, is) refl

  all_kept_from : (P : X → Type 0) (from count : ℕ) → ((k : ℕ) → from ≤ k → k < from + count → keep k ≡ true → P (g k)) → All P (kept from count)
  all_kept_from P from zero each = All-nil P
  all_kept_from P from (suc count) each =
      let rest : All P (kept (from + 1) count) = all_kept_from P (from + 1) count (λ k low high. each k (omega arith) (omega arith)) in
      ⊎_elim {C = All P (kept from (suc count))}
      (λ is. rw (kept_first from count is) (All-cons P (g from) (kept (from + 1) count) (each from (omega arith) (omega arith) is) rest))
      (λ is. rw (kept_not from count is) rest) (cases_Bool (keep from))

  kept_all_from : (P : X → Type 0) (from count : ℕ) → All P (kept from count) → (k : ℕ) → from ≤ k → k < from + count → keep k ≡ true → P (g k)
  kept_all_from P from zero all k low high is = absurd (omega arith)
  kept_all_from P from (suc count) all k low high is =
      ⊎_elim {C = P (g k)}
      (λ same.
      let here : keep from ≡ true = ap keep (sym same) ∙ is in
      let list : All P (g from ∷ kept (from + 1) count) = rw (kept_first from count here) at all in
      subst (λ (i : ℕ). P (g i)) (sym same) (All-head P (g from) (kept (from + 1) count) list))
      (λ other.
      let rest : All P (kept (from + 1) count) =
      ⊎_elim {C = All P (kept (from + 1) count)}
      (λ here. All-tail P (g from) (kept (from + 1) count) (rw (kept_first from count here) at all))
      (λ here. rw (kept_not from count here) at all) (cases_Bool (keep from)) in
      kept_all_from P (from + 1) count rest k (omega arith) (omega arith) is)
      (cases_eq k from)

  pairs_kept_from : (R : X → X → Type 0) (from count : ℕ) → ((a b : ℕ) → from ≤ a → a < b → b < from + count → keep a ≡ true → keep b ≡ true → R (g a) (g b)) → AllPairs R (kept from count)
  pairs_kept_from R from zero each = pairs_nil R
  pairs_kept_from R from (suc count) each =
      let rest : AllPairs R (kept (from + 1) count) = pairs_kept_from R (from + 1) count (λ a b low less high. each a b (omega arith) less (omega arith)) in
      ⊎_elim {C = AllPairs R (kept from (suc count))}
      (λ is.
      let first : All (R (g from)) (kept (from + 1) count) = all_kept_from (R (g from)) (from + 1) count (λ k low high. each from k (omega arith) (omega arith) (omega arith) is) in
      rw (kept_first from count is) (pairs_cons R (g from) (kept (from + 1) count) first rest))
      (λ is. rw (kept_not from count is) rest) (cases_Bool (keep from))

  kept_pairs_from : (R : X → X → Type 0) (from count : ℕ) → AllPairs R (kept from count) → (a b : ℕ) → from ≤ a → a < b → b < from + count → keep a ≡ true → keep b ≡ true → R (g a) (g b)
  kept_pairs_from R from zero pairs a b low less high is also = absurd (omega arith)
  kept_pairs_from R from (suc count) pairs a b low less high is also =
      ⊎_elim {C = R (g a) (g b)}
      (λ same.
      let here : keep from ≡ true = ap keep (sym same) ∙ is in
      let list : AllPairs R (g from ∷ kept (from + 1) count) = rw (kept_first from count here) at pairs in
      let first : All (R (g from)) (kept (from + 1) count) = pairs_head R (g from) (kept (from + 1) count) list in
      subst (λ (i : ℕ). R (g i) (g b)) (sym same) (kept_all_from (R (g from)) (from + 1) count first b (omega arith) (omega arith) also))
      (λ other.
      let rest : AllPairs R (kept (from + 1) count) =
      ⊎_elim {C = AllPairs R (kept (from + 1) count)}
      (λ here. pairs_tail R (g from) (kept (from + 1) count) (rw (kept_first from count here) at pairs))
      (λ here. rw (kept_not from count here) at pairs) (cases_Bool (keep from)) in
      kept_pairs_from R (from + 1) count rest a b (omega arith) less (omega arith) is also)
      (cases_eq a from)

  -- how many of those that are kept pass a test
  count_kept_from : {A : Type 0} (at : ℕ → A) (test : X → Bool) (same : A → Bool) (from count : ℕ) → ((k : ℕ) → keep k ≡ true → test (g k) ≡ same (at k)) → ((k : ℕ) → keep k ≡ false → same (at k) ≡ false)
      → count_by test (kept from count) ≡ count_by same (map at (range_with_len from count))
  count_kept_from at test same from zero alike none = refl
  count_kept_from at test same from (suc count) alike none =
      let rest = count_kept_from at test same (from + 1) count alike none in
      let others = kept (from + 1) count in
      let numbers = map at (range_with_len (from + 1) count) in
      let first = sum_by-cons (λ x. cond (same x) 1 0) (at from) numbers in
      ⊎_elim {C = count_by test (kept from (suc count)) ≡ count_by same (map at (range_with_len from (suc count)))}
      (λ is.
      let one = ap (count_by test) (kept_first from count is) ∙ sum_by-cons (λ x. cond (test x) 1 0) (g from) others in
      let alike_here = ap (λ (b : Bool). cond {A = ℕ} b 1 0) (alike from is) in
      omega arith)
      (λ is.
      let one = ap (count_by test) (kept_not from count is) in
      let none_here = ap (λ (b : Bool). cond {A = ℕ} b 1 0) (none from is) in
      omega arith)
      (cases_Bool (keep from))

  -- each that is kept
  pub all_kept : (P : X → Type 0) (count : ℕ) → ((k : ℕ) → k < count → keep k ≡ true → P (g k)) → All P (kept 0 count)
  all_kept P count each = all_kept_from P 0 count (λ k low high. each k (omega arith))

  pub kept_all : (P : X → Type 0) (count : ℕ) → All P (kept 0 count) → (k : ℕ) → k < count → keep k ≡ true → P (g k)
  kept_all P count all k high = kept_all_from P 0 count all k (omega arith) (omega arith)

  pub pairs_kept : (R : X → X → Type 0) (count : ℕ) → ((a b : ℕ) → a < b → b < count → keep a ≡ true → keep b ≡ true → R (g a) (g b)) → AllPairs R (kept 0 count)
  pairs_kept R count each = pairs_kept_from R 0 count (λ a b low less high. each a b less (omega arith))

  pub kept_pairs : (R : X → X → Type 0) (count : ℕ) → AllPairs R (kept 0 count) → (a b : ℕ) → a < b → b < count → keep a ≡ true → keep b ≡ true → R (g a) (g b)
  kept_pairs R count pairs a b less high = kept_pairs_from R 0 count pairs a b (omega arith) less (omega arith)

  pub kept_contains : (count k : ℕ) → k < count → keep k ≡ true → Contains (kept 0 count) (g k)
  kept_contains count k high is = kept_all (Contains (kept 0 count)) count (All-contains_itself (kept 0 count)) k high is

  pub count_kept : {A : Type 0} (at : ℕ → A) (test : X → Bool) (same : A → Bool) (count : ℕ) → ((k : ℕ) → keep k ≡ true → test (g k) ≡ same (at k)) → ((k : ℕ) → keep k ≡ false → same (at k) ≡ false)
      → count_by test (kept 0 count) ≡ count_by same (map at (range_with_len 0 count))
  count_kept at test same count = count_kept_from at test same 0 count

  pub contained : (count : ℕ) (x : X) → Contains (kept 0 count) x → (k : ℕ) × (k < count) × (keep k ≡ true) × (g k ≡ x)
  contained count x there =
      All-contains (λ y. (k : ℕ) × (k < count) × (keep k ≡ true) × (g k ≡ y)) (kept 0 count) x
      (all_kept (λ y. (k : ℕ) × (k < count) × (keep k ≡ true) × (g k ≡ y)) count (λ k high is. (k, high, is, refl))) there

-- ---- lists of entries as what is kept of their numbers

module _ {A B : Type 0} (at : ℕ → A) (is_used : A → Bool) (of : ℕ → A → B) where
  numbered : (from count : ℕ) → map (λ entry. of entry.0 entry.1) (filter (λ (entry : ℕ × A). is_used entry.1) (enumerate_from from (map at (range_with_len from count)))) ≡ kept (λ k. of k (at k)) (λ k. is_used (at k)) from count
  numbered from zero = refl
  numbered from (suc count) =
      let rest = filter (λ (entry : ℕ × A). is_used entry.1) (enumerate_from (from + 1) (map at (range_with_len (from + 1) count))) in
      let numbers = filter (λ k. is_used (at k)) (range_with_len (from + 1) count) in
      let again = numbered (from + 1) count in
      elim (is_used (at from)) as (λ b. map (λ entry. of entry.0 entry.1) (cond b ((from, at from) ∷ rest) rest) ≡ map (λ k. of k (at k)) (cond b (from ∷ numbers) numbers)) [
        | true ↦ ap (λ (l : List B). of from (at from) ∷ l) again
        | false ↦ again
      ]

  pub entries_kept : (count : ℕ) → map (λ entry. of entry.0 entry.1) (filter (λ (entry : ℕ × A). is_used entry.1) (enumerate_from 0 (map at (range_with_len 0 count)))) ≡ kept (λ k. of k (at k)) (λ k. is_used (at k)) 0 count
  entries_kept count = numbered 0 count

module _ {A B : Type 0} (at : ℕ → A) (is_used : A → Bool) (of : A → B) where
  pub items_kept : (from count : ℕ) → map of (filter is_used (map at (range_with_len from count))) ≡ kept (λ k. of (at k)) (λ k. is_used (at k)) from count
  items_kept from zero = refl
  items_kept from (suc count) =
      let rest = filter is_used (map at (range_with_len (from + 1) count)) in
      let numbers = filter (λ k. is_used (at k)) (range_with_len (from + 1) count) in
      let again = items_kept (from + 1) count in
      elim (is_used (at from)) as (λ b. map of (cond b (at from ∷ rest) rest) ≡ map (λ k. of (at k)) (cond b (from ∷ numbers) numbers)) [
        | true ↦ ap (λ (l : List B). of (at from) ∷ l) again
        | false ↦ again
      ]
