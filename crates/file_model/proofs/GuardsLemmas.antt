-- The PIN commands are guarded.
use Rattle.std.proofs.Common.{◌≡◌, ℕ, zero, suc, ◌-◌, ◌≤◌, Bool, true, false, List, Some, Result, refl, sym, ◌∙◌, ap, subst, inl, inr, ⊎_elim, arith, ◌⊎◌, ◌==◌, if◌then◌else◌, MatchResult, option_map, bytes_eq}
use Rattle.std.specs.Prelude.{⊤}
use Rattle.std.proofs.lemmas.Bool.{eqb-true, cases_eq, eq-eqb, ne_eqb, cond-true, cond-false, eqb-false}
use Rattle.std.proofs.lemmas.Option.{same_Some}
use Rattle.list_laws.proofs.CondLemmas.{mapped_Some}
use Rattle.list_laws.proofs.FindLemmas.{find-map, find_alike, find_Some}
use Rattle.uicc_types.specs.declared.answers.StatusWord.{StatusWord}
use Rattle.uicc_types.specs.declared.answers.TheConstants.StatusWord.{DONE}
use Rattle.apdu_form.specs.Model.{Apdu}
use Rattle.card_state.specs.Persistent.{Pin}
use Rattle.access_rules.specs.declared.rules.Verified.{Verified}
use Rattle.apdu_form.specs.Fields.{has_no_data}
use Rattle.file_model.specs.Outcomes.{PinOutcome}
use Rattle.file_model.specs.Pins.{pin_found, with_pin, marked, tries_left, pin_addressed, presented, pin_presented, unblock_presented, told, value_presented, new_value, pin_verified, pin_changed, pin_disabled, pin_enabled, pin_unblocked}
use Rattle.file_model.specs.Guards.{Guard, OfPin, OfUnblock, tries_by, with_one_less, TakesATry, GivesNoTries, IsGuarded, GuardsPins}
use Rattle.file_model.proofs.OptionLemmas.{some_so}
use Rattle.file_model.proofs.ChainsLemmas.{unless_so, given_so}

-- ---- a PIN in place of another

abbrev put : Pin → Pin → Pin
put pin other = if other.key == pin.key then pin else other

pub put_key : (b : Bool) (pin other : Pin) → (b ≡ true → other.key ≡ pin.key) → (if b then pin else other).key ≡ other.key
put_key true pin other same = sym (same refl)
put_key false pin other same = refl

-- the PIN that is found then
pub found_then : (pins : List Pin) (pin : Pin) (key : ℕ) → pin_found (with_pin pins pin) key ≡ option_map (put pin) (pin_found pins key)
unfolding pin_found
found_then pins pin key =
    find-map (λ (p : Pin). p.key == key) (put pin) pins
    ∙ ap (option_map (put pin)) (find_alike (λ (p : Pin). (put pin p).key == key) (λ (p : Pin). p.key == key) pins
    (λ p. ap (λ (n : ℕ). n == key) (put_key (p.key == pin.key) pin p (eqb-true p.key pin.key))))

pub key_found : (pins : List Pin) (key : ℕ) (pin : Pin) → pin_found pins key ≡ Some pin → pin.key ≡ key
unfolding pin_found
key_found pins key pin is = eqb-true pin.key key (find_Some (λ (p : Pin). p.key == key) pins pin is).1

-- with its own key it is found itself
pub itself_found : (pins : List Pin) (pin before : Pin) → pin_found pins pin.key ≡ Some before → pin_found (with_pin pins pin) pin.key ≡ Some pin
itself_found pins pin before is =
    found_then pins pin pin.key ∙ ap (option_map (put pin)) is
    ∙ ap (λ (p : Pin). Some p) (cond-true (before.key == pin.key) pin before (eq-eqb before.key pin.key (key_found pins pin.key before is)))

-- a PIN with no more tries than before, or with all of them
record HasNoMore (before pin : Pin) : Type 0 where
  tries : (pin.tries ≤ before.tries) ⊎ (pin.tries ≡ 3)
  unblock : (pin.unblock_tries ≤ before.unblock_tries) ⊎ (pin.unblock_tries ≡ 10)

gives_none : (pins : List Pin) (pin before : Pin) → pin_found pins pin.key ≡ Some before → HasNoMore before pin → GivesNoTries pins (with_pin pins pin)
gives_none pins pin before is no_more key found there =
    let mapped = mapped_Some (put pin) (pin_found pins key) found (sym (found_then pins pin key) ∙ there) in
    let old : Pin = mapped.0 in
    some_so (λ (b : Pin). ((found.tries ≤ b.tries) ⊎ (found.tries ≡ 3)) × ((found.unblock_tries ≤ b.unblock_tries) ⊎ (found.unblock_tries ≡ 10))) (pin_found pins key) old mapped.1 (
    ⊎_elim {C = ((found.tries ≤ old.tries) ⊎ (found.tries ≡ 3)) × ((found.unblock_tries ≤ old.unblock_tries) ⊎ (found.unblock_tries ≡ 10))}
    (λ same.
    let this : pin ≡ found = sym (cond-true (old.key == pin.key) pin old (eq-eqb old.key pin.key same)) ∙ mapped.2 in
    let one : before ≡ old = same_Some before old (sym is ∙ ap (pin_found pins) (sym same ∙ key_found pins key old mapped.1) ∙ mapped.1) in
    subst (λ (f : Pin). ((f.tries ≤ old.tries) ⊎ (f.tries ≡ 3)) × ((f.unblock_tries ≤ old.unblock_tries) ⊎ (f.unblock_tries ≡ 10))) this
    (subst (λ (b : Pin). ((pin.tries ≤ b.tries) ⊎ (pin.tries ≡ 3)) × ((pin.unblock_tries ≤ b.unblock_tries) ⊎ (pin.unblock_tries ≡ 10))) one (no_more.tries, no_more.unblock)))
    (λ other.
    let this : old ≡ found = sym (cond-false (old.key == pin.key) pin old (ne_eqb old.key pin.key other)) ∙ mapped.2 in
    subst (λ (f : Pin). ((f.tries ≤ old.tries) ⊎ (f.tries ≡ 3)) × ((f.unblock_tries ≤ old.unblock_tries) ⊎ (f.unblock_tries ≡ 10))) this (inl (omega arith), inl (omega arith)))
    (cases_eq old.key pin.key))

-- ---- a value is presented

same_tries : (a b : ℕ) → tries_left a ≡ tries_left b → a ≡ b
same_tries a b is = omega (arith, ap (λ (s : StatusWord). s.0) is)

-- 9000 tells no tries
not_told : (tries : ℕ) → tries ≤ 10 → DONE ≡ tries_left tries → ⊥
not_told tries few is = omega (arith, few, ap (λ (s : StatusWord). s.0) is)

pub less_key : (guard : Guard) (pin : Pin) → (with_one_less guard pin).key ≡ pin.key
less_key OfPin pin = refl
less_key OfUnblock pin = refl

pub less_tries : (guard : Guard) (pin : Pin) → tries_by guard (with_one_less guard pin) ≡ tries_by guard pin - 1
less_tries OfPin pin = refl
less_tries OfUnblock pin = refl

less_no_more : (guard : Guard) (pin : Pin) → HasNoMore pin (with_one_less guard pin)
less_no_more OfPin pin = record { tries = inl (omega arith); unblock = inl (omega arith) }
less_no_more OfUnblock pin = record { tries = inl (omega arith); unblock = inl (omega arith) }

module _ (pins : List Pin) (verified : Verified) (key : ℕ) (pin : Pin) (found : pin_found pins key ≡ Some pin) where
  told_guarded : (guard : Guard) → IsGuarded guard pins key (told verified (tries_by guard pin))
  told_guarded guard = record {
    first = tt;
    steps = tt;
    left = λ tries few is. some_so (λ (p : Pin). tries_by guard p ≡ tries) (pin_found pins key) pin found (same_tries (tries_by guard pin) tries is);
  }

  module _ (guard : Guard) (some : 1 ≤ tries_by guard pin) where
    abbrev taken : Pin
    taken = with_one_less guard pin

    abbrev after : List Pin
    after = with_pin pins taken

    taken_key : taken.key ≡ key
    taken_key = less_key guard pin ∙ key_found pins key pin found

    here : pin_found pins taken.key ≡ Some pin
    here = ap (pin_found pins) taken_key ∙ found

    taken_found : pin_found after key ≡ Some taken
    taken_found = ap (pin_found after) (sym taken_key) ∙ itself_found pins taken pin here

    takes : TakesATry guard key pins after
    takes = record { pin = pin; found = found; some = some; changed = refl }

    presented_guarded : (is_right : Bool) (restored : Pin) (new : Verified) → restored.key ≡ key → HasNoMore taken restored
        → IsGuarded guard pins key (presented pins verified is_right taken (tries_by guard pin - 1) restored new)
    unfolding presented
    presented_guarded true restored new same no_more = record {
      first = takes;
      steps = (gives_none pins taken pin here (less_no_more guard pin), (gives_none after restored taken (ap (pin_found after) same ∙ taken_found) no_more, tt));
      left = λ tries few is. absurd (not_told tries few is);
    }
    presented_guarded false restored new same no_more = record {
      first = takes;
      steps = (gives_none pins taken pin here (less_no_more guard pin), tt);
      left = λ tries few is. some_so (λ (p : Pin). tries_by guard p ≡ tries) (pin_found after key) taken taken_found (less_tries guard pin ∙ same_tries (tries_by guard pin - 1) tries is);
    }

  pin_guarded : (value : List ℕ) (new : Pin) (marks : Verified) → new.key ≡ pin.key → new.unblock_tries ≡ pin.unblock_tries → 1 ≤ pin.tries
      → IsGuarded OfPin pins key (pin_presented pins verified pin value new marks)
  unfolding pin_presented
  pin_guarded value new marks same same_unblock some =
      presented_guarded OfPin some (bytes_eq value pin.value) (record new { tries = 3 }) marks (same ∙ key_found pins key pin found) (record { tries = inr refl; unblock = inl (omega (arith, same_unblock)) })

  unblock_guarded : (value : List ℕ) (new : Pin) (marks : Verified) → new.key ≡ pin.key → 1 ≤ pin.unblock_tries → IsGuarded OfUnblock pins key (unblock_presented pins verified pin value new marks)
  unfolding unblock_presented
  unblock_guarded value new marks same some =
      presented_guarded OfUnblock some (bytes_eq value pin.unblock) (record new { tries = 3; unblock_tries = 10 }) marks (same ∙ key_found pins key pin found) (record { tries = inr refl; unblock = inr refl })

-- ---- the commands

abbrev Refused : StatusWord → Type 0
Refused status = ⊤

some_tries : (n : ℕ) → (n == 0) ≡ false → 1 ≤ n
some_tries n none = some_number n (eqb-false n 0 none)
  where
    some_number : (n : ℕ) → (n ≡ 0 → ⊥) → 1 ≤ n
    some_number zero other = absurd (other refl)
    some_number (suc n) other = omega arith

pub either_result : {X : Type 0} (P : X → Type 0) (R : StatusWord → Type 0) (b : Bool) (x y : Result X StatusWord) → MatchResult x P R → MatchResult y P R → MatchResult (if b then x else y) P R
either_result P R true x y first second = first
either_result P R false x y first second = second

tests_guarded : (pins : List Pin) (apdu : Apdu) (P : PinOutcome → Type 0) (is_length is_key : Bool) (next : Pin → Result PinOutcome StatusWord)
    → ((pin : Pin) → pin_found pins apdu.p2 ≡ Some pin → MatchResult (next pin) P Refused) → MatchResult (pin_addressed pins apdu is_length is_key next) P Refused
tests_guarded pins apdu P is_length is_key next rest =
    unless_so P Refused _ _ _ tt (λ _.
    unless_so P Refused _ _ _ tt (λ _.
    unless_so P Refused _ _ _ tt (λ _.
    given_so P Refused (pin_found pins apdu.p2) _ next tt rest)))

pub verify_guarded : GuardsPins OfPin pin_verified
unfolding pin_verified
verify_guarded pins verified apdu =
    let P : PinOutcome → Type 0 = IsGuarded OfPin pins apdu.p2 in
    tests_guarded pins apdu P _ _ _ (λ pin found.
    unless_so P Refused _ _ _ tt (λ some.
    either_result P Refused (has_no_data apdu) _ _ (told_guarded pins verified apdu.p2 pin found OfPin) (
    unless_so P Refused _ _ _ tt (λ _.
    pin_guarded pins verified apdu.p2 pin found (value_presented apdu) pin (marked verified pin.key true) refl refl (some_tries pin.tries some)))))

pub change_guarded : GuardsPins OfPin pin_changed
unfolding pin_changed
change_guarded pins verified apdu =
    let P : PinOutcome → Type 0 = IsGuarded OfPin pins apdu.p2 in
    tests_guarded pins apdu P _ _ _ (λ pin found.
    unless_so P Refused _ _ _ tt (λ some.
    unless_so P Refused _ _ _ tt (λ _.
    pin_guarded pins verified apdu.p2 pin found (value_presented apdu) (record pin { value = new_value apdu }) (marked verified pin.key true) refl refl (some_tries pin.tries some))))

pub disable_guarded : GuardsPins OfPin pin_disabled
unfolding pin_disabled
disable_guarded pins verified apdu =
    let P : PinOutcome → Type 0 = IsGuarded OfPin pins apdu.p2 in
    tests_guarded pins apdu P _ _ _ (λ pin found.
    unless_so P Refused _ _ _ tt (λ some.
    unless_so P Refused _ _ _ tt (λ _.
    pin_guarded pins verified apdu.p2 pin found (value_presented apdu) (record pin { is_enabled = false }) verified refl refl (some_tries pin.tries some))))

pub enable_guarded : GuardsPins OfPin pin_enabled
unfolding pin_enabled
enable_guarded pins verified apdu =
    let P : PinOutcome → Type 0 = IsGuarded OfPin pins apdu.p2 in
    tests_guarded pins apdu P _ _ _ (λ pin found.
    unless_so P Refused _ _ _ tt (λ some.
    unless_so P Refused _ _ _ tt (λ _.
    pin_guarded pins verified apdu.p2 pin found (value_presented apdu) (record pin { is_enabled = true }) (marked verified pin.key true) refl refl (some_tries pin.tries some))))

pub unblock_is_guarded : GuardsPins OfUnblock pin_unblocked
unfolding pin_unblocked
unblock_is_guarded pins verified apdu =
    let P : PinOutcome → Type 0 = IsGuarded OfUnblock pins apdu.p2 in
    tests_guarded pins apdu P _ _ _ (λ pin found.
    unless_so P Refused _ _ _ tt (λ some.
    either_result P Refused (has_no_data apdu) _ _ (told_guarded pins verified apdu.p2 pin found OfUnblock)
    (unblock_guarded pins verified apdu.p2 pin found (value_presented apdu) (record pin { value = new_value apdu; is_enabled = true }) (marked verified pin.key true) refl (some_tries pin.unblock_tries some))))
