-- The PINs that were told of, slot by slot.
use Rattle.std.proofs.Common.{get_or, ◌≡◌, ℕ, suc, ◌+◌, ◌*◌, ◌/◌, ◌≤◌, ◌<◌, Bool, true, false, cond, List, [], ◌∷◌, ◌++◌, length, drop, map, refl, sym, ap, ◌∙◌, arith, append_assoc, length-append, ◌==◌, not, drop-cons, div-mul-le_self}
use Rattle.std.proofs.lemmas.List.{drop_all, append-nil}
use Rattle.card_state.specs.declared.entries.PinSlot.{PinSlot}
use Rattle.card_state.specs.States.{pin_state, present_pins}
use Rattle.access_rules.specs.Objects.{object}
use Rattle.file_model.specs.Fcp.{enabled_bits}
use Rattle.binary_commands.specs.declared.telling.PinStatus.{PinStatus}
use Rattle.binary_commands.specs.Telling.{key_objects, pins_in, pin_told}

-- what was told of the slots before this one, with what those from it on have, is what all have
pub record AreTold (slots : List PinSlot) (at : ℕ) (told : PinStatus) : Type 0 where
  pub enabled : told.enabled + enabled_bits told.weight (pins_in (drop at slots)) ≡ enabled_bits 0x80 (pins_in slots)
  pub keys : told.keys ++ key_objects (pins_in (drop at slots)) ≡ key_objects (pins_in slots)
  pub bits : told.enabled + told.weight * 2 ≤ 256
  pub long : length told.keys ≤ 3 * at

abbrev with_key : PinStatus → PinSlot → PinStatus
with_key told pin = record { enabled = told.enabled + cond pin.enabled told.weight 0; weight = told.weight / 2; keys = told.keys ++ object 0x83 (pin.key ∷ []) }

module _ (told : PinStatus) (pin : PinSlot) (rest : List PinSlot) where
  abbrev pins_with : Bool → List PinSlot
  pins_with none = cond (not none) (pin ∷ present_pins rest) (present_pins rest)

  abbrev told_with : Bool → PinStatus
  told_with none = cond none told (with_key told pin)

  bits_with : (none : Bool) → (told_with none).enabled + enabled_bits (told_with none).weight (pins_in rest) ≡ told.enabled + enabled_bits told.weight (map pin_state (pins_with none))
  bits_with true = refl
  bits_with false = omega arith

  keys_with : (none : Bool) → (told_with none).keys ++ key_objects (pins_in rest) ≡ told.keys ++ key_objects (map pin_state (pins_with none))
  keys_with true = refl
  keys_with false = append_assoc told.keys (object 0x83 (pin.key ∷ [])) (key_objects (pins_in rest))

  room_with : (none : Bool) → told.enabled + told.weight * 2 ≤ 256 → (told_with none).enabled + (told_with none).weight * 2 ≤ 256
  room_with true bits = bits
  room_with false bits = of_bit pin.enabled
    where
      of_bit : (b : Bool) → told.enabled + cond b told.weight 0 + told.weight / 2 * 2 ≤ 256
      of_bit true = omega (arith, bits, div-mul-le_self told.weight 2)
      of_bit false = omega (arith, bits, div-mul-le_self told.weight 2)

  long_with : (none : Bool) → length (told_with none).keys ≤ length told.keys + 3
  unfolding object
  long_with true = omega arith
  long_with false = omega (arith, length-append told.keys (object 0x83 (pin.key ∷ [])))

pub one_told : (slots : List PinSlot) (at : ℕ) (told : PinStatus) (d : PinSlot) → at < length slots → AreTold slots at told → AreTold slots (at + 1) (pin_told told (get_or slots at d))
one_told slots at told d low are =
    let pin : PinSlot = get_or slots at d in
    let rest : List PinSlot = drop (suc at) slots in
    let split : drop at slots ≡ pin ∷ rest = drop-cons slots at d low in
    let following : at + 1 ≡ suc at = omega arith in
    let next : drop (at + 1) slots ≡ rest = ap (λ (n : ℕ). drop n slots) following in
    let now : PinStatus = pin_told told pin in
    record {
      enabled =
          ap (λ (l : List PinSlot). now.enabled + enabled_bits now.weight (pins_in l)) next
          ∙ bits_with told pin rest (pin.key == 0)
          ∙ ap (λ (l : List PinSlot). told.enabled + enabled_bits told.weight (pins_in l)) (sym split)
          ∙ are.enabled;
      keys = ap (λ (l : List PinSlot). now.keys ++ key_objects (pins_in l)) next ∙ keys_with told pin rest (pin.key == 0) ∙ ap (λ (l : List PinSlot). told.keys ++ key_objects (pins_in l)) (sym split) ∙ are.keys;
      bits = room_with told pin rest (pin.key == 0) are.bits;
      long = omega (arith, are.long, long_with told pin rest (pin.key == 0));
    }

-- once all slots are told of
pub all_enabled : (slots : List PinSlot) (at : ℕ) (told : PinStatus) → length slots ≤ at → AreTold slots at told → told.enabled ≡ enabled_bits 0x80 (pins_in slots)
all_enabled slots at told done are =
    let none : told.enabled ≡ told.enabled + 0 = omega arith in
    none ∙ ap (λ (l : List PinSlot). told.enabled + enabled_bits told.weight (pins_in l)) (sym (drop_all at slots done)) ∙ are.enabled

pub all_keys : (slots : List PinSlot) (at : ℕ) (told : PinStatus) → length slots ≤ at → AreTold slots at told → told.keys ≡ key_objects (pins_in slots)
all_keys slots at told done are =
    sym (append-nil told.keys) ∙ ap (λ (l : List PinSlot). told.keys ++ key_objects (pins_in l)) (sym (drop_all at slots done)) ∙ are.keys
