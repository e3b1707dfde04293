-- What isn't counted isn't seen, and what isn't seen isn't counted.
use Rattle.std.proofs.Common.{◌≡◌, ℕ, ◌≤◌, ◌-◌, ◌^◌, zero, suc, Bool, true, false, List, [], ◌∷◌, refl, ◌∙◌, ap, arith, All, cond, count_by}
use Rattle.std.proofs.lemmas.List.Elements.{All-cons, All-head, All-nil, All-tail}
use Rattle.std.proofs.lemmas.List.Sums.{sum_by-cons}
use Rattle.uicc_types.specs.Counts.{Rose, raised, raised_by}
use Rattle.card_model.specs.Counts.{is_cut, is_failure}
use Rattle.card_laws.proofs.PowerLastsLemmas.{power_lasts}
use Rattle.card_laws.specs.FaultLaws.{FaultsAreSeen, UndisturbedRunsShowNoFault}

never_falls : (times before : ℕ) → before ≤ 2 ^ 64 - 1 → before ≤ raised_by times before
never_falls zero before small = omega arith
never_falls (suc times) before small = omega (arith, never_falls times (raised before) (omega arith))

still : (times before now : ℕ) → now ≡ raised_by times before → (Rose before now → ⊥) → times ≡ 0
still zero before now rose none = refl
still (suc times) before now rose none = absurd (none (omega (arith, rose, never_falls times (raised before) (omega arith))))

abbrev weight : {X : Type 0} → (X → Bool) → X → ℕ
weight test x = cond (test x) 1 0

unseen_first : {X : Type 0} (test : X → Bool) (x : X) (items : List X) (seen : Bool) → test x ≡ seen → count_by test (x ∷ items) ≡ 0 → (count_by test items ≡ 0 → All (λ y. test y ≡ false) items) → All (λ y. test y ≡ false) (x ∷ items)
unseen_first test x items true is none rest =
    let one : weight test x ≡ suc zero = cc in
    absurd (omega (arith, none, sum_by-cons (weight test) x items, one))
unseen_first test x items false is none rest = All-cons (λ y. test y ≡ false) x items is (rest (omega (arith, none, sum_by-cons (weight test) x items)))

unseen : {X : Type 0} (test : X → Bool) (items : List X) → count_by test items ≡ 0 → All (λ x. test x ≡ false) items
unseen test [] none = All-nil (λ x. test x ≡ false)
unseen test (x ∷ items) none = unseen_first test x items (test x) refl none (unseen test items)

pub undisturbed : UndisturbedRunsShowNoFault
undisturbed first now steps shown old new plans run on counted none =
    let cuts = unseen is_cut shown (still (count_by is_cut shown) old.cuts new.cuts counted.cuts none.cuts) in
    let lasts = power_lasts first now steps shown run on cuts in (
      record {
        failures = unseen is_failure shown (still (count_by is_failure shown) old.faults new.faults counted.failures none.failures);
        cuts = cuts;
        power = lasts.0;
      },
      lasts.1,
    )

none_of : {X : Type 0} (test : X → Bool) (items : List X) → All (λ x. test x ≡ false) items → count_by test items ≡ 0
none_of test [] none = refl
none_of test (x ∷ items) none =
    let first : test x ≡ false = All-head (λ y. test y ≡ false) x items none in
    let zero_first : weight test x ≡ 0 = cc in
    omega (arith, none_of test items (All-tail (λ y. test y ≡ false) x items none), sum_by-cons (weight test) x items, zero_first)

pub seen : FaultsAreSeen
seen old new plans shown counted failures cuts =
    (counted.failures ∙ ap (λ (times : ℕ). raised_by times old.faults) (none_of is_failure shown failures), counted.cuts ∙ ap (λ (times : ℕ). raised_by times old.cuts) (none_of is_cut shown cuts))
