-- Tests over what stands for the numbers below another.
use Rattle.std.proofs.Common.{zero, suc, ◌≡◌, ℕ, ◌+◌, ◌-◌, ◌≤◌, ◌<◌, Bool, true, false, cond, List, map, refl, ◌∙◌, ap, subst, ⊎_elim, arith, slice_get, Some, None}
use Rattle.std.specs.List.{range_with_len, list_any, list_all, count_by}
use Rattle.std.proofs.lemmas.Bool.{cases_eq, cases_Bool, and_parts, and_from, or_parts, or_from}
use Rattle.std.proofs.lemmas.List.FromFn.{sum_by-map-range_with_len_more}

module _ {A : Type 0} (at : ℕ → A) where
  abbrev pub those : ℕ → ℕ → List A
  those from count = map at (range_with_len from count)

  none_from : (test : A → Bool) (from count : ℕ) → ((k : ℕ) → from ≤ k → k < from + count → test (at k) ≡ false) → list_any test (those from count) ≡ false
  none_from test from zero each = refl
  none_from test from (suc count) each =
      or_from (test (at from)) (list_any test (those (from + 1) count)) (each from (omega arith) (omega arith))
      (none_from test (from + 1) count (λ k low high. each k (omega arith) (omega arith)))

  from_none : (test : A → Bool) (from count : ℕ) → list_any test (those from count) ≡ false → (k : ℕ) → from ≤ k → k < from + count → test (at k) ≡ false
  from_none test from zero none k low high = absurd (omega arith)
  from_none test from (suc count) none k low high =
      let parts = or_parts (test (at from)) (list_any test (those (from + 1) count)) none in
      ⊎_elim {C = test (at k) ≡ false} (λ same. ap (λ (i : ℕ). test (at i)) same ∙ parts.0)
      (λ other. from_none test (from + 1) count parts.1 k (omega arith) (omega arith)) (cases_eq k from)

  all_from : (test : A → Bool) (from count : ℕ) → ((k : ℕ) → from ≤ k → k < from + count → test (at k) ≡ true) → list_all test (those from count) ≡ true
  all_from test from zero each = refl
  all_from test from (suc count) each =
      and_from (test (at from)) (list_all test (those (from + 1) count)) (each from (omega arith) (omega arith))
      (all_from test (from + 1) count (λ k low high. each k (omega arith) (omega arith)))

  from_all : (test : A → Bool) (from count : ℕ) → list_all test (those from count) ≡ true → (k : ℕ) → from ≤ k → k < from + count → test (at k) ≡ true
  from_all test from zero all k low high = absurd (omega arith)
  from_all test from (suc count) all k low high =
      let parts = and_parts (test (at from)) (list_all test (those (from + 1) count)) all in
      ⊎_elim {C = test (at k) ≡ true} (λ same. ap (λ (i : ℕ). test (at i)) same ∙ parts.0)
      (λ other. from_all test (from + 1) count parts.1 k (omega arith) (omega arith)) (cases_eq k from)

  there_from : (from count k : ℕ) → k < count → slice_get (those from count) k ≡ Some (at (from + k))
  there_from from zero k high = absurd (omega arith)
  there_from from (suc count) zero high = let same : from ≡ from + 0 = omega arith in ap (λ (i : ℕ). Some (at i)) same
  there_from from (suc count) (suc k) high =
      let same : from + 1 + k ≡ from + suc k = omega arith in
      there_from (from + 1) count k (omega arith) ∙ ap (λ (i : ℕ). Some (at i)) same

  past_from : (from count k : ℕ) → count ≤ k → slice_get (those from count) k ≡ None
  past_from from zero k high = refl
  past_from from (suc count) zero high = absurd (omega arith)
  past_from from (suc count) (suc k) high = past_from (from + 1) count k (omega arith)

  pub none_below : (test : A → Bool) (count : ℕ) → ((k : ℕ) → k < count → test (at k) ≡ false) → list_any test (those 0 count) ≡ false
  none_below test count each = none_from test 0 count (λ k low high. each k (omega arith))

  pub below_none : (test : A → Bool) (count : ℕ) → list_any test (those 0 count) ≡ false → (k : ℕ) → k < count → test (at k) ≡ false
  below_none test count none k high = from_none test 0 count none k (omega arith) (omega arith)

  pub all_below : (test : A → Bool) (count : ℕ) → ((k : ℕ) → k < count → test (at k) ≡ true) → list_all test (those 0 count) ≡ true
  all_below test count each = all_from test 0 count (λ k low high. each k (omega arith))

  pub below_all : (test : A → Bool) (count : ℕ) → list_all test (those 0 count) ≡ true → (k : ℕ) → k < count → test (at k) ≡ true
  below_all test count all k high = from_all test 0 count all k (omega arith) (omega arith)

  pub got_below : (count k : ℕ) → k < count → slice_get (those 0 count) k ≡ Some (at k)
  got_below count k high = let same : 0 + k ≡ k = omega arith in there_from 0 count k high ∙ ap (λ (i : ℕ). Some (at i)) same

  pub past_below : (count k : ℕ) → count ≤ k → slice_get (those 0 count) k ≡ None
  past_below count k high = past_from 0 count k high

  -- ---- how many of the numbers below another pass a test

  module _ (test : A → Bool) where
    abbrev pub passing : ℕ → ℕ
    passing count = count_by test (those 0 count)

    passing_more : (count : ℕ) → passing (suc count) ≡ passing count + cond (test (at count)) 1 0
    passing_more count =
        let more : suc count ≡ count + 1 = omega arith in
        ap passing more ∙ sum_by-map-range_with_len_more (λ x. cond (test x) 1 0) at 0 count count (omega arith)

    passing_yes : (count : ℕ) → test (at count) ≡ true → passing (suc count) ≡ passing count + 1
    passing_yes count is = passing_more count ∙ ap (λ (b : Bool). passing count + cond b 1 0) is

    passing_no : (count : ℕ) → test (at count) ≡ false → passing (suc count) ≡ passing count
    passing_no count is = let more = passing_more count ∙ ap (λ (b : Bool). passing count + cond b 1 0) is in omega arith

    passing_rises : (count : ℕ) → passing count ≤ passing (suc count)
    passing_rises count = let more = passing_more count in omega arith

    passing_grows : (count rest : ℕ) → passing count ≤ passing (count + rest)
    passing_grows count zero = let same : count ≡ count + 0 = omega arith in subst (λ (n : ℕ). passing count ≤ passing n) same (omega arith)
    passing_grows count (suc rest) =
        let same : suc (count + rest) ≡ count + suc rest = omega arith in
        let before = passing_grows count rest in
        let last = passing_rises (count + rest) in
        subst (λ (n : ℕ). passing count ≤ passing n) same (omega arith)

    pub few_pass : (limit count : ℕ) → ((k : ℕ) → k < count → test (at k) ≡ true → passing k < limit) → passing count ≤ limit
    few_pass limit zero each = omega arith
    few_pass limit (suc count) each =
        let before = few_pass limit count (λ k low. each k (omega arith)) in
        ⊎_elim {C = passing (suc count) ≤ limit} (λ is. let room = each count (omega arith) is in omega (arith, passing_yes count is))
        (λ is. omega (arith, passing_no count is)) (cases_Bool (test (at count)))

    pub pass_few : (limit count : ℕ) → passing count ≤ limit → (k : ℕ) → k < count → test (at k) ≡ true → passing k < limit
    pass_few limit count few k low is =
        let same : suc k + (count - suc k) ≡ count = omega arith in
        let grown = passing_grows (suc k) (count - suc k) in
        let whole = subst (λ (n : ℕ). passing (suc k) ≤ passing n) same grown in
        omega (arith, passing_yes k is)
