-- The PIN commands come to lawful outcomes.
use Rattle.std.proofs.Common.{get_or, ◌≡◌, ℕ, ◌-◌, ◌<◌, ◌≤◌, Bool, true, false, List, [], ◌∷◌, Some, Result, refl, sym, ◌∙◌, ap, subst, inl, inr, arith, ◌⊎◌, ◌==◌, if◌then◌else◌, Contains, MatchResult, bytes_eq, eqb-true}
use Rattle.std.proofs.lemmas.List.Elements.{All-nil, All-cons, All-map, All-contains}
use Rattle.list_laws.proofs.FindLemmas.{find_Some}
use Rattle.list_laws.proofs.AllPairsLemmas.{pairs_map}
use Rattle.uicc_types.specs.declared.answers.StatusWord.{StatusWord}
use Rattle.uicc_types.specs.declared.answers.TheConstants.StatusWord.{DONE}
use Rattle.apdu_form.specs.Model.{Apdu}
use Rattle.card_state.specs.Persistent.{Pin, Persistent}
use Rattle.card_state.specs.Soundness.{IsSoundPin, slot_of_key, IsSound}
use Rattle.access_rules.specs.declared.rules.Verified.{Verified}
use Rattle.apdu_form.specs.Fields.{has_no_data}
use Rattle.file_model.specs.Outcomes.{PinOutcome}
use Rattle.file_model.specs.Pins.{pin_found, with_pin, marked, pin_addressed, presented, pin_presented, unblock_presented, told, value_presented, new_value, pin_verified, pin_changed, pin_disabled, pin_enabled, pin_unblocked}
use Rattle.file_model.specs.Laws.{ChangesTriesAlone, TellsTries, IsLawfulPinOutcome, pin_refusals, IsLawfulPinCommand}
use Rattle.file_model.proofs.ChainsLemmas.{unless_so, given_so}
use Rattle.file_model.proofs.GuardsLemmas.{put_key, either_result}

-- ---- one PIN is another

chosen_sound : (b : Bool) (pin other : Pin) → IsSoundPin pin → IsSoundPin other → IsSoundPin (if b then pin else other)
chosen_sound true pin other first second = first
chosen_sound false pin other first second = second

with_pin_sound : (state : Persistent) (pin : Pin) → IsSound state → IsSoundPin pin → IsSound (record state { pins = with_pin state.pins pin })
with_pin_sound state pin sound one =
    let put : Pin → Pin = λ other. if other.key == pin.key then pin else other in
    let key : (other : Pin) → (put other).key ≡ other.key = λ other. put_key (other.key == pin.key) pin other (eqb-true other.key pin.key) in
    record {
      files = sound.files;
      mf_there = sound.mf_there;
      distinct_files = sound.distinct_files;
      pins = All-map IsSoundPin put state.pins (λ k d low. chosen_sound ((get_or state.pins k d).key == pin.key) pin (get_or state.pins k d) one (sound.pins k d low));
      ordered_pins = pairs_map (λ (a b : Pin). slot_of_key a.key < slot_of_key b.key) put state.pins (λ i j d less low.
          subst (λ (n : ℕ). slot_of_key n < slot_of_key (put (get_or state.pins j d)).key) (sym (key (get_or state.pins i d)))
          (subst (λ (n : ℕ). slot_of_key (get_or state.pins i d).key < slot_of_key n) (sym (key (get_or state.pins j d))) (sound.ordered_pins i j d less low)));
      rows = sound.rows;
      distinct_rows = sound.distinct_rows;
      texts = sound.texts;
    }

-- ---- a value is presented

-- 9000 tells no tries
done_tells_none : TellsTries DONE → ⊥
done_tells_none (tries, few, is) = omega (arith, few, ap (λ (s : StatusWord). s.0) is)

module _ (state : Persistent) (sound : IsSound state) (verified : Verified) (key : ℕ) (pin : Pin) (there : Contains state.pins pin) (named : pin.key ≡ key) where
  abbrev this_sound : IsSoundPin pin
  this_sound = All-contains IsSoundPin state.pins pin sound.pins there

  told_so : (tries : ℕ) → tries ≤ 10 → IsLawfulPinOutcome state verified key (told verified tries)
  told_so tries few = record {
    commits = omega arith;
    steps = tt;
    sound = All-nil (λ pins. IsSound (record state { pins = pins }));
    status = inr (tries, few, refl);
    marks = inl refl;
    refused = λ _. (inl refl, All-nil (ChangesTriesAlone key state.pins));
  }

  abbrev MarksThis : Verified → Type 0
  MarksThis new = (new ≡ verified) ⊎ ((truth : Bool) × (new ≡ marked verified key truth))

  presented_so : (is_right : Bool) (tries unblock_tries left : ℕ) (restored : Pin) (new : Verified) → tries ≤ 3 → unblock_tries ≤ 10 → left ≤ 10 → IsSoundPin restored → restored.key ≡ key → MarksThis new
      → IsLawfulPinOutcome state verified key (presented state.pins verified is_right (record pin { tries = tries; unblock_tries = unblock_tries }) left restored new)
  unfolding presented
  presented_so true tries unblock_tries left restored new few few_unblock few_left right restored_key marks =
      let taken : Pin = record pin { tries = tries; unblock_tries = unblock_tries } in
      let first : IsSound (record state { pins = with_pin state.pins taken }) = with_pin_sound state taken sound (record { key = this_sound.key; tries = few; unblock_tries = few_unblock }) in
      let second : IsSound (record state { pins = with_pin (with_pin state.pins taken) restored }) = with_pin_sound (record state { pins = with_pin state.pins taken }) restored first right in
      record {
        commits = omega arith;
        steps = (record { pin = taken; named = named; changed = refl }, (record { pin = restored; named = restored_key; changed = refl }, tt));
        sound = All-cons (λ pins. IsSound (record state { pins = pins })) (with_pin state.pins taken) (with_pin (with_pin state.pins taken) restored ∷ []) first
            (All-cons (λ pins. IsSound (record state { pins = pins })) (with_pin (with_pin state.pins taken) restored) [] second (All-nil (λ pins. IsSound (record state { pins = pins }))));
        status = inl refl;
        marks = marks;
        refused = λ tells. absurd (done_tells_none tells);
      }
  presented_so false tries unblock_tries left restored new few few_unblock few_left right restored_key marks =
      let taken : Pin = record pin { tries = tries; unblock_tries = unblock_tries } in
      let first : IsSound (record state { pins = with_pin state.pins taken }) = with_pin_sound state taken sound (record { key = this_sound.key; tries = few; unblock_tries = few_unblock }) in
      record {
        commits = omega arith;
        steps = (record { pin = taken; named = named; changed = refl }, tt);
        sound = All-cons (λ pins. IsSound (record state { pins = pins })) (with_pin state.pins taken) [] first (All-nil (λ pins. IsSound (record state { pins = pins })));
        status = inr (left, few_left, refl);
        marks = inr (false, ap (λ (n : ℕ). marked verified n false) named);
        refused = λ _. (
          inr (ap (λ (n : ℕ). marked verified n false) named),
          All-cons (ChangesTriesAlone key state.pins) (with_pin state.pins taken) [] (record { pin = pin; there = there; named = named; tries = tries; unblock_tries = unblock_tries; changed = refl }) (All-nil (ChangesTriesAlone key state.pins)),
        );
      }

  -- the new PIN has the key and the tries of its UNBLOCK PIN
  pin_so : (value : List ℕ) (new : Pin) (marks : Verified) → new.key ≡ pin.key → new.unblock_tries ≡ pin.unblock_tries → MarksThis marks
      → IsLawfulPinOutcome state verified key (pin_presented state.pins verified pin value new marks)
  unfolding pin_presented
  pin_so value new marks same same_unblock marks_this =
      presented_so (bytes_eq value pin.value) (pin.tries - 1) pin.unblock_tries (pin.tries - 1) (record new { tries = 3 }) marks (omega (arith, this_sound.tries)) this_sound.unblock_tries (omega (arith, this_sound.tries))
      (record { key = subst (λ (n : ℕ). Contains (0x01 ∷ 0x81 ∷ 0x0A ∷ []) n) (sym same) this_sound.key; tries = omega arith; unblock_tries = omega (arith, same_unblock, this_sound.unblock_tries) })
      (same ∙ named) marks_this

  unblock_so : (value : List ℕ) (new : Pin) (marks : Verified) → new.key ≡ pin.key → MarksThis marks → IsLawfulPinOutcome state verified key (unblock_presented state.pins verified pin value new marks)
  unfolding unblock_presented
  unblock_so value new marks same marks_this =
      presented_so (bytes_eq value pin.unblock) pin.tries (pin.unblock_tries - 1) (pin.unblock_tries - 1) (record new { tries = 3; unblock_tries = 10 }) marks this_sound.tries (omega (arith, this_sound.unblock_tries)) (omega (arith, this_sound.unblock_tries))
      (record { key = subst (λ (n : ℕ). Contains (0x01 ∷ 0x81 ∷ 0x0A ∷ []) n) (sym same) this_sound.key; tries = omega arith; unblock_tries = omega arith })
      (same ∙ named) marks_this

  verified_now : MarksThis (marked verified pin.key true)
  verified_now = inr (true, ap (λ (n : ℕ). marked verified n true) named)

  tries_low : pin.tries ≤ 10
  tries_low = omega (arith, this_sound.tries)

  unblock_low : pin.unblock_tries ≤ 10
  unblock_low = this_sound.unblock_tries

-- ---- the commands

found_so : (pins : List Pin) (key : ℕ) (pin : Pin) → pin_found pins key ≡ Some pin → Contains pins pin × (pin.key ≡ key)
unfolding pin_found
found_so pins key pin is = let found = find_Some (λ (p : Pin). p.key == key) pins pin is in (found.0, eqb-true pin.key key found.1)

-- P1, the length, the key, and then what is done with the PIN
pin_tests_so : (state : Persistent) (verified : Verified) (apdu : Apdu) (is_length is_key : Bool) (next : Pin → Result PinOutcome StatusWord)
    → ((pin : Pin) → Contains state.pins pin → pin.key ≡ apdu.p2 → MatchResult (next pin) (IsLawfulPinOutcome state verified apdu.p2) (Contains pin_refusals))
    → MatchResult (pin_addressed state.pins apdu is_length is_key next) (IsLawfulPinOutcome state verified apdu.p2) (Contains pin_refusals)
pin_tests_so state verified apdu is_length is_key next rest =
    unless_so (IsLawfulPinOutcome state verified apdu.p2) (Contains pin_refusals) _ _ _ (0, omega arith, refl) (λ _.
    unless_so (IsLawfulPinOutcome state verified apdu.p2) (Contains pin_refusals) _ _ _ (1, omega arith, refl) (λ _.
    unless_so (IsLawfulPinOutcome state verified apdu.p2) (Contains pin_refusals) _ _ _ (2, omega arith, refl) (λ _.
    given_so (IsLawfulPinOutcome state verified apdu.p2) (Contains pin_refusals) (pin_found state.pins apdu.p2) _ next (2, omega arith, refl) (λ pin is.
    let found = found_so state.pins apdu.p2 pin is in rest pin found.0 found.1))))

pub pin_verified_so : IsLawfulPinCommand pin_verified
unfolding pin_verified
pin_verified_so state verified apdu sound =
    let P : PinOutcome → Type 0 = IsLawfulPinOutcome state verified apdu.p2 in
    pin_tests_so state verified apdu _ _ _ (λ pin there named.
    unless_so P (Contains pin_refusals) _ _ _ (3, omega arith, refl) (λ _.
    either_result P (Contains pin_refusals) (has_no_data apdu) _ _ (told_so state sound verified apdu.p2 pin there named pin.tries (tries_low state sound verified apdu.p2 pin there named)) (
    unless_so P (Contains pin_refusals) _ _ _ (4, omega arith, refl) (λ _.
    pin_so state sound verified apdu.p2 pin there named (value_presented apdu) pin (marked verified pin.key true) refl refl (verified_now state sound verified apdu.p2 pin there named)))))

pub pin_changed_so : IsLawfulPinCommand pin_changed
unfolding pin_changed
pin_changed_so state verified apdu sound =
    let P : PinOutcome → Type 0 = IsLawfulPinOutcome state verified apdu.p2 in
    pin_tests_so state verified apdu _ _ _ (λ pin there named.
    unless_so P (Contains pin_refusals) _ _ _ (3, omega arith, refl) (λ _.
    unless_so P (Contains pin_refusals) _ _ _ (4, omega arith, refl) (λ _.
    pin_so state sound verified apdu.p2 pin there named (value_presented apdu) (record pin { value = new_value apdu }) (marked verified pin.key true) refl refl (verified_now state sound verified apdu.p2 pin there named))))

pub pin_disabled_so : IsLawfulPinCommand pin_disabled
unfolding pin_disabled
pin_disabled_so state verified apdu sound =
    let P : PinOutcome → Type 0 = IsLawfulPinOutcome state verified apdu.p2 in
    pin_tests_so state verified apdu _ _ _ (λ pin there named.
    unless_so P (Contains pin_refusals) _ _ _ (3, omega arith, refl) (λ _.
    unless_so P (Contains pin_refusals) _ _ _ (4, omega arith, refl) (λ _.
    pin_so state sound verified apdu.p2 pin there named (value_presented apdu) (record pin { is_enabled = false }) verified refl refl (inl refl))))

pub pin_enabled_so : IsLawfulPinCommand pin_enabled
unfolding pin_enabled
pin_enabled_so state verified apdu sound =
    let P : PinOutcome → Type 0 = IsLawfulPinOutcome state verified apdu.p2 in
    pin_tests_so state verified apdu _ _ _ (λ pin there named.
    unless_so P (Contains pin_refusals) _ _ _ (3, omega arith, refl) (λ _.
    unless_so P (Contains pin_refusals) _ _ _ (5, omega arith, refl) (λ _.
    pin_so state sound verified apdu.p2 pin there named (value_presented apdu) (record pin { is_enabled = true }) (marked verified pin.key true) refl refl (verified_now state sound verified apdu.p2 pin there named))))

pub pin_unblocked_so : IsLawfulPinCommand pin_unblocked
unfolding pin_unblocked
pin_unblocked_so state verified apdu sound =
    let P : PinOutcome → Type 0 = IsLawfulPinOutcome state verified apdu.p2 in
    pin_tests_so state verified apdu _ _ _ (λ pin there named.
    unless_so P (Contains pin_refusals) _ _ _ (3, omega arith, refl) (λ _.
    either_result P (Contains pin_refusals) (has_no_data apdu) _ _ (told_so state sound verified apdu.p2 pin there named pin.unblock_tries (unblock_low state sound verified apdu.p2 pin there named))
    (unblock_so state sound verified apdu.p2 pin there named (value_presented apdu) (record pin { value = new_value apdu; is_enabled = true }) (marked verified pin.key true) refl (verified_now state sound verified apdu.p2 pin there named))))
