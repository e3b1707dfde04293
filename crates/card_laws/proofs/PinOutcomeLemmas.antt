-- What the PIN commands come to: a refusal that tells no tries, the tries told, or a value presented.
use Rattle.std.proofs.Common.{◌≡◌, ℕ, zero, suc, ◌-◌, ◌≤◌, Bool, true, false, List, [], Some, refl, inl, inr, arith, ◌⊎◌, ◌==◌, length, MatchResult, Result, bytes_eq}
use Rattle.std.proofs.lemmas.Bool.{eqb-true, eqb-false, ne_eqb, not-false}
use Rattle.uicc_types.specs.declared.answers.StatusWord.{StatusWord}
use Rattle.apdu_form.specs.Model.{Apdu}
use Rattle.card_state.specs.Persistent.{Pin}
use Rattle.access_rules.specs.declared.rules.Verified.{Verified}
use Rattle.apdu_form.specs.Fields.{has_no_data}
use Rattle.file_model.specs.Outcomes.{PinOutcome}
use Rattle.file_model.specs.Pins.{pin_found, marked, pin_addressed, presented, pin_presented, unblock_presented, value_presented, new_value, pin_verified, pin_changed, pin_disabled, pin_enabled, pin_unblocked}
use Rattle.file_model.specs.Commands.{pin_outcome}
use Rattle.file_model.specs.declared.commands.PinCommand.{PinCommand}
use Rattle.file_model.specs.declared.commands.PinCommand.TheVariants.{Verify, Change, Disable, Enable, Unblock}
use Rattle.file_model.specs.Guards.{Guard, OfPin, OfUnblock, guard_of, tries_by, with_one_less}
use Rattle.file_model.proofs.ChainsLemmas.{unless_so, given_so}
use Rattle.card_model.proofs.ChainedLemmas.{either_so}
use Rattle.card_laws.specs.Guesses.{tells_tries, value_by}

-- a value was presented against a PIN that had a try
pub record IsTrialOf (guard : Guard) (pins : List Pin) (verified : Verified) (apdu : Apdu) (outcome : PinOutcome) : Type 0 where
  pub pin : Pin
  pub found : pin_found pins apdu.p2 ≡ Some pin
  pub some : 1 ≤ tries_by guard pin
  pub there : has_no_data apdu ≡ false
  pub restored : Pin
  pub marks : Verified
  pub named : restored.key ≡ pin.key
  pub marks_are : (marks ≡ verified) ⊎ (marks ≡ marked verified pin.key true)
  pub is : outcome ≡ presented pins verified (bytes_eq (value_presented apdu) (value_by guard pin)) (with_one_less guard pin) (tries_by guard pin - 1) restored marks

-- without data nothing is committed
pub record IsTold (verified : Verified) (apdu : Apdu) (outcome : PinOutcome) : Type 0 where
  pub none : has_no_data apdu ≡ true
  pub nothing : outcome.passed ≡ []
  pub same : outcome.verified ≡ verified

abbrev pub Comes : Guard → List Pin → Verified → Apdu → PinOutcome → Type 0
Comes guard pins verified apdu outcome = IsTold verified apdu outcome ⊎ IsTrialOf guard pins verified apdu outcome

abbrev pub TellsNone : StatusWord → Type 0
TellsNone status = tells_tries status ≡ false

some_number : (n : ℕ) → (n == 0) ≡ false → 1 ≤ n
some_number n none = by_number n (eqb-false n 0 none) where
  by_number : (n : ℕ) → (n ≡ 0 → ⊥) → 1 ≤ n
  by_number zero other = absurd (other refl)
  by_number (suc n) other = omega arith

-- so many bytes of data are some
long_data : (n k : ℕ) → 1 ≤ k → (n == k) ≡ true → (n == 0) ≡ false
long_data n k some is = let same : n ≡ k = eqb-true n k is in ne_eqb n 0 (λ none. omega (arith, some, same, none))

module _ (pins : List Pin) (verified : Verified) (apdu : Apdu) where
  addressed_so : (P : PinOutcome → Type 0) (is_length is_key : Bool) (next : Pin → Result PinOutcome StatusWord)
      → (is_length ≡ true → (pin : Pin) → pin_found pins apdu.p2 ≡ Some pin → MatchResult (next pin) P TellsNone) → MatchResult (pin_addressed pins apdu is_length is_key next) P TellsNone
  addressed_so P is_length is_key next rest =
      unless_so P TellsNone _ _ _ refl (λ _.
      unless_so P TellsNone _ _ _ refl (λ long.
      unless_so P TellsNone _ _ _ refl (λ _.
      given_so P TellsNone (pin_found pins apdu.p2) _ next refl (rest (not-false is_length long)))))

  -- a value against the PIN
  tried : (pin new : Pin) (marks : Verified) → pin_found pins apdu.p2 ≡ Some pin → (pin.tries == 0) ≡ false → has_no_data apdu ≡ false → new.key ≡ pin.key → (marks ≡ verified) ⊎ (marks ≡ marked verified pin.key true)
      → Comes OfPin pins verified apdu (pin_presented pins verified pin (value_presented apdu) new marks)
  unfolding pin_presented
  tried pin new marks found some there named marks_are =
      inr (record { pin = pin; found = found; some = some_number pin.tries some; there = there; restored = record new { tries = 3 }; marks = marks; named = named; marks_are = marks_are; is = refl })

  -- and against the UNBLOCK PIN
  unblock_tried : (pin new : Pin) (marks : Verified) → pin_found pins apdu.p2 ≡ Some pin → (pin.unblock_tries == 0) ≡ false → has_no_data apdu ≡ false → new.key ≡ pin.key → (marks ≡ verified) ⊎ (marks ≡ marked verified pin.key true)
      → Comes OfUnblock pins verified apdu (unblock_presented pins verified pin (value_presented apdu) new marks)
  unfolding unblock_presented
  unblock_tried pin new marks found some there named marks_are =
      inr (record { pin = pin; found = found; some = some_number pin.unblock_tries some; there = there; restored = record new { tries = 3; unblock_tries = 10 }; marks = marks; named = named; marks_are = marks_are; is = refl })

  abbrev P : PinOutcome → Type 0
  P outcome = Comes OfPin pins verified apdu outcome

  abbrev Q : PinOutcome → Type 0
  Q outcome = Comes OfUnblock pins verified apdu outcome

  verify_comes : MatchResult (pin_verified pins verified apdu) P TellsNone
  unfolding pin_verified
  verify_comes =
      addressed_so P _ _ _ (λ long pin found.
      unless_so P TellsNone _ _ _ refl (λ some.
      either_so P TellsNone (has_no_data apdu) _ _ (λ lacks. inl (record { none = lacks; nothing = refl; same = refl })) (λ there.
      unless_so P TellsNone _ _ _ refl (λ _. tried pin pin (marked verified pin.key true) found some there refl (inr refl)))))

  change_comes : MatchResult (pin_changed pins verified apdu) P TellsNone
  unfolding pin_changed
  change_comes =
      addressed_so P _ _ _ (λ long pin found.
      unless_so P TellsNone _ _ _ refl (λ some.
      unless_so P TellsNone _ _ _ refl (λ _.
      tried pin (record pin { value = new_value apdu }) (marked verified pin.key true) found some (long_data (length apdu.body) 16 (omega arith) long) refl (inr refl))))

  disable_comes : MatchResult (pin_disabled pins verified apdu) P TellsNone
  unfolding pin_disabled
  disable_comes =
      addressed_so P _ _ _ (λ long pin found.
      unless_so P TellsNone _ _ _ refl (λ some.
      unless_so P TellsNone _ _ _ refl (λ _.
      tried pin (record pin { is_enabled = false }) verified found some (long_data (length apdu.body) 8 (omega arith) long) refl (inl refl))))

  enable_comes : MatchResult (pin_enabled pins verified apdu) P TellsNone
  unfolding pin_enabled
  enable_comes =
      addressed_so P _ _ _ (λ long pin found.
      unless_so P TellsNone _ _ _ refl (λ some.
      unless_so P TellsNone _ _ _ refl (λ _.
      tried pin (record pin { is_enabled = true }) (marked verified pin.key true) found some (long_data (length apdu.body) 8 (omega arith) long) refl (inr refl))))

  unblock_comes : MatchResult (pin_unblocked pins verified apdu) Q TellsNone
  unfolding pin_unblocked
  unblock_comes =
      addressed_so Q _ _ _ (λ long pin found.
      unless_so Q TellsNone _ _ _ refl (λ some.
      either_so Q TellsNone (has_no_data apdu) _ _ (λ lacks. inl (record { none = lacks; nothing = refl; same = refl })) (λ there.
      unblock_tried pin (record pin { value = new_value apdu; is_enabled = true }) (marked verified pin.key true) found some there refl (inr refl))))

  pub pin_comes : (command : PinCommand) → MatchResult (pin_outcome command pins verified apdu) (Comes (guard_of command) pins verified apdu) TellsNone
  pin_comes Verify = verify_comes
  pin_comes Change = change_comes
  pin_comes Disable = disable_comes
  pin_comes Enable = enable_comes
  pin_comes Unblock = unblock_comes
