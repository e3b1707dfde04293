-- A PIN in place of another: which PIN is found then, and what tries it has.
use Rattle.std.proofs.Common.{◌≡◌, ℕ, ◌-◌, ◌≤◌, List, Option, Some, None, refl, sym, ◌∙◌, ap, subst, inl, arith, ◌⊎◌, ◌≢◌, ◌==◌, if◌then◌else◌, option_map, IsSomeAnd}
use Rattle.std.proofs.lemmas.Bool.{eq-eqb, ne_eqb, cond-true, cond-false}
use Rattle.card_state.specs.Persistent.{Pin}
use Rattle.file_model.specs.Pins.{pin_found, with_pin}
use Rattle.file_model.specs.Guards.{Guard, OfPin, OfUnblock, tries_by, GivesNoTries}
use Rattle.file_model.proofs.GuardsLemmas.{found_then, key_found}
use Rattle.card_laws.specs.Guesses.{tries_if, tries_of, all_tries}

-- ---- which PIN is found

abbrev put : Pin → Pin → Pin
put pin other = if other.key == pin.key then pin else other

-- a PIN in place of that with its key is found by it
pub itself_found : (pins : List Pin) (pin before : Pin) (key : ℕ) → pin.key ≡ key → pin_found pins key ≡ Some before → pin_found (with_pin pins pin) key ≡ Some pin
itself_found pins pin before key named is =
    found_then pins pin key ∙ ap (option_map (put pin)) is
    ∙ ap (λ (p : Pin). Some p) (cond-true (before.key == pin.key) pin before (eq-eqb before.key pin.key (key_found pins key before is ∙ sym named)))

-- by another key the same PIN is found
pub other_found : (pins : List Pin) (pin : Pin) (key : ℕ) → pin.key ≢ key → pin_found (with_pin pins pin) key ≡ pin_found pins key
other_found pins pin key differs = found_then pins pin key ∙ by_found (pin_found pins key) refl where
  by_found : (found : Option Pin) → pin_found pins key ≡ found → option_map (put pin) found ≡ found
  by_found None is = refl
  by_found (Some other) is = ap (λ (p : Pin). Some p) (cond-false (other.key == pin.key) pin other (ne_eqb other.key pin.key (λ same. differs (sym same ∙ key_found pins key other is))))

-- ---- tries

pub tries_found : (guard : Guard) (key : ℕ) (pins : List Pin) (pin : Pin) → pin_found pins key ≡ Some pin → tries_of guard key pins ≡ tries_by guard pin
tries_found guard key pins pin is = ap (tries_if guard) is

-- no more tries than before, or all of them
abbrev pub KeepsOrFills : Guard → ℕ → List Pin → List Pin → Type 0
KeepsOrFills guard key before after = (tries_of guard key after ≤ tries_of guard key before) ⊎ (tries_of guard key after ≡ all_tries guard)

pub kept_or_filled : (guard : Guard) (key : ℕ) (before after : List Pin) → GivesNoTries before after → KeepsOrFills guard key before after
kept_or_filled guard key before after gives = by_after (pin_found after key) refl where
  by_guard : (g : Guard) (old new : Pin) → ((new.tries ≤ old.tries) ⊎ (new.tries ≡ 3)) × ((new.unblock_tries ≤ old.unblock_tries) ⊎ (new.unblock_tries ≡ 10))
      → (tries_by g new ≤ tries_by g old) ⊎ (tries_by g new ≡ all_tries g)
  by_guard OfPin old new no_more = no_more.0
  by_guard OfUnblock old new no_more = no_more.1

  by_before : (found : Option Pin) (new : Pin) → IsSomeAnd found (λ old. ((new.tries ≤ old.tries) ⊎ (new.tries ≡ 3)) × ((new.unblock_tries ≤ old.unblock_tries) ⊎ (new.unblock_tries ≡ 10)))
      → (tries_by guard new ≤ tries_if guard found) ⊎ (tries_by guard new ≡ all_tries guard)
  by_before None new no_more = absurd no_more
  by_before (Some old) new no_more = by_guard guard old new no_more

  by_after : (found : Option Pin) → pin_found after key ≡ found → KeepsOrFills guard key before after
  by_after None is = inl (omega (arith, ap (tries_if guard) is))
  by_after (Some new) is =
      subst (λ (n : ℕ). (n ≤ tries_of guard key before) ⊎ (n ≡ all_tries guard)) (sym (tries_found guard key after new is)) (by_before (pin_found before key) new (gives key new is))
