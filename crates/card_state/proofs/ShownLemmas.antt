-- What is found among the entries of a list that are used, each with its number.
use Rattle.std.specs.List.{enumerate_from}
use Rattle.std.proofs.Common.{◌≡◌, ℕ, ◌+◌, ◌==◌, ◌&&◌, Bool, true, false, cond, if◌then◌else◌, zero, suc, List, [], ◌∷◌, map, filter, find, slice_get, Option, Some, None, option_and_then, All, count_by, refl, sym, ◌∙◌, ap, subst, ⊎_elim, arith}
use Rattle.std.proofs.lemmas.Bool.{cases_Bool, eq-eqb, ne_eqb}
use Rattle.std.proofs.lemmas.List.Elements.{All-nil, All-cons}
use Rattle.std.proofs.lemmas.List.Sums.{sum_by-cons}

module _ {A B : Type 0} (is_used : A → Bool) (of : ℕ → A → B) where
  abbrev pub shown : ℕ → List A → List B
  shown from list = map (λ entry. of entry.0 entry.1) (filter (λ (entry : ℕ × A). is_used entry.1) (enumerate_from from list))

  shown_used : (from : ℕ) (x : A) (list : List A) → is_used x ≡ true → shown from (x ∷ list) ≡ of from x ∷ shown (from + 1) list
  shown_used from x list is = rw is refl

  shown_free : (from : ℕ) (x : A) (list : List A) → is_used x ≡ false → shown from (x ∷ list) ≡ shown (from + 1) list
  shown_free from x list is = rw is refl

  -- what holds of each that is used holds of what it stands for
  all_shown : (P : B → Type 0) (from : ℕ) (list : List A) → ((k : ℕ) (x : A) → slice_get list k ≡ Some x → is_used x ≡ true → P (of (from + k) x)) → All P (shown from list)
  all_shown P from [] each = All-nil P
  all_shown P from (x ∷ list) each =
      let rest : All P (shown (from + 1) list) =
      all_shown P (from + 1) list (λ k y is used. let same : from + suc k ≡ from + 1 + k = omega arith in subst (λ (n : ℕ). P (of n y)) same (each (suc k) y is used)) in
      ⊎_elim {C = All P (shown from (x ∷ list))}
      (λ used.
      let same : from + 0 ≡ from = omega arith in
      subst (λ (l : List B). All P l) (sym (shown_used from x list used)) (All-cons P (of from x) (shown (from + 1) list) (subst (λ (n : ℕ). P (of n x)) same (each 0 x refl used)) rest))
      (λ free. subst (λ (l : List B). All P l) (sym (shown_free from x list free)) rest) (cases_Bool (is_used x))

  pub all_used : (P : B → Type 0) (list : List A) → ((k : ℕ) (x : A) → slice_get list k ≡ Some x → is_used x ≡ true → P (of k x)) → All P (shown 0 list)
  all_used P list each = all_shown P 0 list (λ k x got used. let same : k ≡ 0 + k = omega arith in subst (λ (n : ℕ). P (of n x)) same (each k x got used))

  -- the one that passes a test, which is that with this number
  module _ (test : B → Bool) where
    passes_first : (x : B) (list : List B) → test x ≡ true → find test (x ∷ list) ≡ Some x
    passes_first x list is = rw is refl

    fails_first : (x : B) (list : List B) → test x ≡ false → find test (x ∷ list) ≡ find test list
    fails_first x list is = rw is refl

    none_found : (list : List B) → All (λ x. test x ≡ false) list → find test list ≡ None
    none_found [] none = refl
    none_found (x ∷ list) none = fails_first x list (none 0 x (omega arith)) ∙ none_found list (λ k d low. none (suc k) d (omega arith))

    abbrev AnswersAt : ℕ → ℕ → List A → Type 0
    AnswersAt at from list = (k : ℕ) (x : A) → slice_get list k ≡ Some x → is_used x ≡ true → test (of (from + k) x) ≡ (from + k == at)

    abbrev there : ℕ → A → Option B
    there at x = if is_used x then Some (of at x) else None

    found_shown : (at from k : ℕ) (list : List A) → from + k ≡ at → AnswersAt at from list → find test (shown from list) ≡ option_and_then (there at) (slice_get list k)
    found_shown at from k [] is answers = refl
    found_shown at from zero (x ∷ list) is answers =
        let same : from ≡ at = omega arith in
        let first : from + 0 ≡ from = omega arith in
        let rest : find test (shown (from + 1) list) ≡ None =
        none_found (shown (from + 1) list)
        (all_shown (λ y. test y ≡ false) (from + 1) list
        (λ k y got used.
        let next : from + suc k ≡ from + 1 + k = omega arith in
        subst (λ (n : ℕ). test (of n y) ≡ false) next (answers (suc k) y got used ∙ ne_eqb (from + suc k) at (λ equal. absurd (omega arith))))) in
        ⊎_elim {C = find test (shown from (x ∷ list)) ≡ there at x}
        (λ used.
        let passes : test (of from x) ≡ true = subst (λ (n : ℕ). test (of n x) ≡ true) first (answers 0 x refl used ∙ eq-eqb (from + 0) at (omega arith)) in
        ap (find test) (shown_used from x list used) ∙ passes_first (of from x) (shown (from + 1) list) passes
        ∙ ap (λ (n : ℕ). Some (of n x)) same ∙ sym (ap (λ (b : Bool). if b then Some (of at x) else None) used))
        (λ free. ap (find test) (shown_free from x list free) ∙ rest ∙ sym (ap (λ (b : Bool). if b then Some (of at x) else None) free)) (cases_Bool (is_used x))
    found_shown at from (suc k) (x ∷ list) is answers =
        let again : find test (shown (from + 1) list) ≡ option_and_then (there at) (slice_get list k) =
        found_shown at (from + 1) k list (omega arith)
        (λ j y got used. let next : from + suc j ≡ from + 1 + j = omega arith in subst (λ (n : ℕ). test (of n y) ≡ (n == at)) next (answers (suc j) y got used)) in
        ⊎_elim {C = find test (shown from (x ∷ list)) ≡ option_and_then (there at) (slice_get list k)}
        (λ used.
        let first : from + 0 ≡ from = omega arith in
        let fails : test (of from x) ≡ false = subst (λ (n : ℕ). test (of n x) ≡ false) first (answers 0 x refl used ∙ ne_eqb (from + 0) at (λ equal. absurd (omega arith))) in
        ap (find test) (shown_used from x list used) ∙ fails_first (of from x) (shown (from + 1) list) fails ∙ again)
        (λ free. ap (find test) (shown_free from x list free) ∙ again) (cases_Bool (is_used x))

    pub found_used : (at : ℕ) (list : List A) → ((k : ℕ) (x : A) → slice_get list k ≡ Some x → is_used x ≡ true → test (of k x) ≡ (k == at)) → find test (shown 0 list) ≡ option_and_then (there at) (slice_get list at)
    found_used at list answers =
        found_shown at 0 at list (omega arith)
        (λ k x got used. let same : k ≡ 0 + k = omega arith in subst (λ (n : ℕ). test (of n x) ≡ (n == at)) same (answers k x got used))

    -- as many as pass a test among those that are used
    pub count_shown : (same : A → Bool) (from : ℕ) (list : List A) → ((k : ℕ) (x : A) → test (of k x) ≡ same x) → count_by test (shown from list) ≡ count_by (λ x. is_used x && same x) list
    count_shown same from [] alike = refl
    count_shown same from (x ∷ list) alike =
        let again = count_shown same (from + 1) list alike in
        let here = sum_by-cons (λ y. cond (is_used y && same y) 1 0) x list in
        ⊎_elim {C = count_by test (shown from (x ∷ list)) ≡ count_by (λ y. is_used y && same y) (x ∷ list)}
        (λ used.
        let one = ap (count_by test) (shown_used from x list used) ∙ sum_by-cons (λ y. cond (test y) 1 0) (of from x) (shown (from + 1) list) in
        let counted = ap (λ (b : Bool). cond {A = ℕ} b 1 0) (alike from x) in
        let both = ap (λ (b : Bool). cond {A = ℕ} (b && same x) 1 0) used in
        omega arith)
        (λ free.
        let none = ap (count_by test) (shown_free from x list free) in
        let neither = ap (λ (b : Bool). cond {A = ℕ} (b && same x) 1 0) free in
        omega arith) (cases_Bool (is_used x))

-- the entries of a list without their numbers
pub unnumbered : {A B : Type 0} (is_used : A → Bool) (of : A → B) (from : ℕ) (list : List A) → map of (filter is_used list) ≡ shown is_used (λ k x. of x) from list
unnumbered {B = B} is_used of from [] = refl
unnumbered {B = B} is_used of from (x ∷ list) =
    let again = unnumbered is_used of (from + 1) list in
    ⊎_elim {C = map of (filter is_used (x ∷ list)) ≡ shown is_used (λ k y. of y) from (x ∷ list)}
    (λ used. ap (λ (b : Bool). map of (cond b (x ∷ filter is_used list) (filter is_used list))) used ∙ ap (λ (l : List B). of x ∷ l) again ∙ sym (shown_used is_used (λ k y. of y) from x list used))
    (λ free. ap (λ (b : Bool). map of (cond b (x ∷ filter is_used list) (filter is_used list))) free ∙ again ∙ sym (shown_free is_used (λ k y. of y) from x list free)) (cases_Bool (is_used x))

-- entries whose words for them agree where they matter
pub alike_shown : {A B : Type 0} (is_used : A → Bool) (of of' : ℕ → A → B) → ((k : ℕ) (x : A) → of k x ≡ of' k x) → (from : ℕ) (list : List A) → shown is_used of from list ≡ shown is_used of' from list
alike_shown {B = B} is_used of of' alike from [] = refl
alike_shown {B = B} is_used of of' alike from (x ∷ list) =
    let again = alike_shown is_used of of' alike (from + 1) list in
    ⊎_elim {C = shown is_used of from (x ∷ list) ≡ shown is_used of' from (x ∷ list)}
    (λ used. shown_used is_used of from x list used ∙ ap (λ (y : B). y ∷ shown is_used of (from + 1) list) (alike from x) ∙ ap (λ (l : List B). of' from x ∷ l) again ∙ sym (shown_used is_used of' from x list used))
    (λ free. shown_free is_used of from x list free ∙ again ∙ sym (shown_free is_used of' from x list free)) (cases_Bool (is_used x))
