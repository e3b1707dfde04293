-- The mark of a key after another mark is set.
use Rattle.std.proofs.Common.{◌≡◌, ℕ, Bool, true, false, refl, sym, ◌∙◌, subst, ◌≢◌, ◌==◌, if◌then◌else◌, eqb-true, ne_eqb}
use Rattle.uicc_types.specs.declared.keys.TheConstants.{PIN_1, PIN_2, ADM_1}
use Rattle.access_rules.specs.declared.rules.Verified.{Verified}
use Rattle.access_rules.specs.Conditions.{is_satisfied}
use Rattle.file_model.specs.Pins.{marked}
use Rattle.card_model.specs.States.{nothing_verified}

gone_by : (a b c x y z : Bool) → (if a then (if a then false else x) else if b then (if b then false else y) else if c then (if c then false else z) else false) ≡ false
gone_by true b c x y z = refl
gone_by false true c x y z = refl
gone_by false false true x y z = refl
gone_by false false false x y z = refl

-- the mark that was taken away is gone
pub mark_gone : (key : ℕ) (verified : Verified) → is_satisfied key (marked verified key false) ≡ false
mark_gone key verified = gone_by (key == PIN_1) (key == PIN_2) (key == ADM_1) verified.pin1 verified.pin2 verified.adm1

none_by : (a b c : Bool) → (if a then false else if b then false else if c then false else false) ≡ false
none_by true b c = refl
none_by false true c = refl
none_by false false true = refl
none_by false false false = refl

-- nothing is verified after a reset
pub nothing_marked : (key : ℕ) → is_satisfied key nothing_verified ≡ false
nothing_marked key = none_by (key == PIN_1) (key == PIN_2) (key == ADM_1)

other_by : (truth a b c p q r x y z : Bool) → (a ≡ true → p ≡ false) → (b ≡ true → q ≡ false) → (c ≡ true → r ≡ false)
    → (if a then (if p then truth else x) else if b then (if q then truth else y) else if c then (if r then truth else z) else false) ≡ (if a then x else if b then y else if c then z else false)
other_by truth true b c p q r x y z first second third = subst (λ (s : Bool). (if s then truth else x) ≡ x) (sym (first refl)) refl
other_by truth false true c p q r x y z first second third = subst (λ (s : Bool). (if s then truth else y) ≡ y) (sym (second refl)) refl
other_by truth false false true p q r x y z first second third = subst (λ (s : Bool). (if s then truth else z) ≡ z) (sym (third refl)) refl
other_by truth false false false p q r x y z first second third = refl

-- the mark of another key changes none of this key's
pub mark_other : (key other : ℕ) (truth : Bool) (verified : Verified) → other ≢ key → is_satisfied key (marked verified other truth) ≡ is_satisfied key verified
mark_other key other truth verified differs =
    other_by truth (key == PIN_1) (key == PIN_2) (key == ADM_1) (other == PIN_1) (other == PIN_2) (other == ADM_1) verified.pin1 verified.pin2 verified.adm1
    (λ same. ne_eqb other PIN_1 (λ is. differs (is ∙ sym (eqb-true key PIN_1 same)))) (λ same. ne_eqb other PIN_2 (λ is. differs (is ∙ sym (eqb-true key PIN_2 same)))) (λ same. ne_eqb other ADM_1 (λ is. differs (is ∙ sym (eqb-true key ADM_1 same))))
