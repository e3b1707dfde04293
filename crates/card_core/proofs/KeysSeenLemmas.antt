-- The conditions of the keys, from the slots of the PINs.
use Rattle.std.proofs.Common.{◌≡◌, ◌≢◌, ℕ, ◌==◌, ◌&&◌, ◌||◌, not, Bool, true, false, List, [], ◌∷◌, map, Some, refl, sym, ◌∙◌, ap, arith, length, slice_get, slice_index_or}
use Rattle.std.proofs.Math.Bool.{or-false}
use Rattle.std.proofs.lemmas.Bool.{eq-eqb, eqb-true, eqb-false, false_from_ne_true}
use Rattle.uicc_types.specs.declared.keys.TheConstants.{PIN_1, PIN_2, ADM_1}
use Rattle.card_state.specs.declared.entries.PinSlot.{PinSlot}
use Rattle.card_state.specs.declared.entries.Loaded.{Loaded}
use Rattle.card_state.specs.States.{pins_of, present_pins, pin_state}
use Rattle.card_state.specs.Checks.{key_of_slot}
use Rattle.card_state.specs.Used.{HasOwnKeys}
use Rattle.access_rules.specs.declared.rules.Verified.{Verified}
use Rattle.file_model.specs.Access.{meets_condition, keys_seen}

-- there is a PIN in this slot, which is verified or disabled
abbrev is_met : PinSlot → Bool → Bool
is_met pin verified = not (pin.key == 0) && (verified || not pin.enabled)

abbrev met_among : List PinSlot → ℕ → Bool → Bool
met_among slots key verified = meets_condition (map pin_state (present_pins slots)) key verified

abbrev HasKey : PinSlot → ℕ → Type 0
HasKey pin key = pin.key ≢ 0 → pin.key ≡ key

-- ---- a slot with its own key, and one with another

own_slot : (missing : Bool) (key : ℕ) (verified : Bool) (pin : PinSlot) (rest : List PinSlot) → HasKey pin key → (pin.key == 0) ≡ missing
    → met_among (pin ∷ rest) key verified ≡ (is_met pin verified || met_among rest key verified)
own_slot true key verified pin rest own is = rw is refl
own_slot false key verified pin rest own is =
    rw is (ap (λ (b : Bool). (b && (verified || not pin.enabled)) || met_among rest key verified) (eq-eqb pin.key key (own (eqb-false pin.key 0 is))))

other_slot : (missing : Bool) (key other : ℕ) (verified : Bool) (pin : PinSlot) (rest : List PinSlot) → other ≢ key → HasKey pin other → (pin.key == 0) ≡ missing
    → met_among (pin ∷ rest) key verified ≡ met_among rest key verified
other_slot true key other verified pin rest differs own is = rw is refl
other_slot false key other verified pin rest differs own is =
    rw is (ap (λ (b : Bool). (b && (verified || not pin.enabled)) || met_among rest key verified)
    (false_from_ne_true (pin.key == key) (λ same. differs (sym (own (eqb-false pin.key 0 is)) ∙ eqb-true pin.key key same))))

-- ---- the three slots

module _ (a b c : PinSlot) (first : HasKey a PIN_1) (second : HasKey b PIN_2) (third : HasKey c ADM_1) where
  met_first : (verified : Bool) → met_among (a ∷ b ∷ c ∷ []) PIN_1 verified ≡ is_met a verified
  met_first verified =
      own_slot (a.key == 0) PIN_1 verified a (b ∷ c ∷ []) first refl
      ∙ ap (λ (rest : Bool). is_met a verified || rest) (other_slot (b.key == 0) PIN_1 PIN_2 verified b (c ∷ []) (omega arith) second refl ∙ other_slot (c.key == 0) PIN_1 ADM_1 verified c [] (omega arith) third refl)
      ∙ or-false (is_met a verified)

  met_second : (verified : Bool) → met_among (a ∷ b ∷ c ∷ []) PIN_2 verified ≡ is_met b verified
  met_second verified =
      other_slot (a.key == 0) PIN_2 PIN_1 verified a (b ∷ c ∷ []) (omega arith) first refl
      ∙ own_slot (b.key == 0) PIN_2 verified b (c ∷ []) second refl
      ∙ ap (λ (rest : Bool). is_met b verified || rest) (other_slot (c.key == 0) PIN_2 ADM_1 verified c [] (omega arith) third refl)
      ∙ or-false (is_met b verified)

  met_third : (verified : Bool) → met_among (a ∷ b ∷ c ∷ []) ADM_1 verified ≡ is_met c verified
  met_third verified =
      other_slot (a.key == 0) ADM_1 PIN_1 verified a (b ∷ c ∷ []) (omega arith) first refl
      ∙ other_slot (b.key == 0) ADM_1 PIN_2 verified b (c ∷ []) (omega arith) second refl
      ∙ own_slot (c.key == 0) ADM_1 verified c [] third refl
      ∙ or-false (is_met c verified)

seen_alike : (p p' q q' r r' : Bool) → p ≡ p' → q ≡ q' → r ≡ r' → (let first : Verified = record { pin1 = p; pin2 = q; adm1 = r } in first) ≡ (let second : Verified = record { pin1 = p'; pin2 = q'; adm1 = r' } in second)
seen_alike p p' q q' r r' first second third = rw (first, second, third) refl

seen_in_slots : (table : Loaded) (verified : Verified) (a b c : PinSlot) → table.pins ≡ a ∷ b ∷ c ∷ [] → HasOwnKeys table
    → (p q r : Bool) → p ≡ is_met a verified.pin1 → q ≡ is_met b verified.pin2 → r ≡ is_met c verified.adm1
    → (let seen : Verified = record { pin1 = p; pin2 = q; adm1 = r } in seen) ≡ keys_seen (pins_of table) verified
unfolding keys_seen pins_of
seen_in_slots table verified a b c is own p q r p_is q_is r_is =
    let has : (slot : ℕ) (pin : PinSlot) → slice_get (a ∷ b ∷ c ∷ []) slot ≡ Some pin → pin.key ≢ 0 → pin.key ≡ key_of_slot slot =
    λ slot pin there key. own slot pin (record { there = ap (λ (slots : List PinSlot). slice_get slots slot) is ∙ there; key = key }) in
    let first : a.key ≢ 0 → a.key ≡ PIN_1 = has 0 a refl in
    let second : b.key ≢ 0 → b.key ≡ PIN_2 = has 1 b refl in
    let third : c.key ≢ 0 → c.key ≡ ADM_1 = has 2 c refl in
    seen_alike p _ q _ r _ (p_is ∙ sym (met_first a b c first second third verified.pin1)) (q_is ∙ sym (met_second a b c first second third verified.pin2)) (r_is ∙ sym (met_third a b c first second third verified.adm1))
    ∙ ap (λ (slots : List PinSlot). keys_seen (map pin_state (present_pins slots)) verified) (sym is)

pub seen_of_slots : (table : Loaded) (verified : Verified) (slots : List PinSlot) (other : PinSlot) → slots ≡ table.pins → length slots ≡ 3 → HasOwnKeys table
    → (p q r : Bool) → p ≡ is_met (slice_index_or slots 0 other) verified.pin1 → q ≡ is_met (slice_index_or slots 1 other) verified.pin2 → r ≡ is_met (slice_index_or slots 2 other) verified.adm1
    → (let seen : Verified = record { pin1 = p; pin2 = q; adm1 = r } in seen) ≡ keys_seen (pins_of table) verified
seen_of_slots table verified [] other is long own p q r first second third = absurd (omega (arith, long))
seen_of_slots table verified (a ∷ []) other is long own p q r first second third = absurd (omega (arith, long))
seen_of_slots table verified (a ∷ b ∷ []) other is long own p q r first second third = absurd (omega (arith, long))
seen_of_slots table verified (a ∷ b ∷ c ∷ []) other is long own p q r first second third = seen_in_slots table verified a b c (sym is) own p q r first second third
seen_of_slots table verified (a ∷ b ∷ c ∷ d ∷ more) other is long own p q r first second third = absurd (omega (arith, long))
