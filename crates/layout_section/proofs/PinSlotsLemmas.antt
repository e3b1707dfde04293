-- The PINs in their three slots.
use Rattle.std.proofs.Common.{zero, suc, get_or, set, ◌≡◌, ◌≢◌, ℕ, ◌<◌, Bool, true, false, List, [], ◌∷◌, ◌++◌, length, map, refl, sym, ◌∙◌, ap, inl, inr, arith, ◌⊎◌, ◌&&◌, ◌||◌, ◌==◌, not, nat_lt, filter, Ok, Err, eq-eqb, ne_eqb}
use Rattle.std.specs.List.{list_any, enumerate_from}
use Rattle.std.proofs.lemmas.List.{append_assoc, get_or_default}
use Rattle.card_state.specs.declared.faults.SectionFault.TheVariants.{Bad}
use Rattle.card_state.specs.declared.entries.PinSlot.{PinSlot}
use Rattle.card_state.specs.Blank.{absent_pin}
use Rattle.card_state.specs.Persistent.{Pin}
use Rattle.card_state.specs.States.{pin_state, present_pins}
use Rattle.card_state.specs.Checks.{key_of_slot}
use Rattle.card_state.specs.Soundness.{slot_of_key}
use Rattle.card_state.specs.Sections.{is_key, with_pin}
use Rattle.layout_section.specs.Adding.{Changes, is_new_pin, may_have_pin}
use Rattle.layout_section.specs.PinSlots.{IsNewPin, AreSlotsOf}
use Rattle.layout_section.proofs.PresentLemmas.{list_any-passing, IsOrdered, one_more, unnumbered}

abbrev pub pins_in : List PinSlot → List Pin
pins_in slots = map pin_state (present_pins slots)

abbrev is_present : PinSlot → Bool
is_present pin = not (pin.key == 0)

abbrev IsSlot : ℕ → PinSlot → Type 0
IsSlot own slot = (slot ≡ absent_pin) ⊎ IsNewPin own slot

other_slot : (own key : ℕ) (slot : PinSlot) → IsSlot own slot → own ≢ key → (is_present slot && (slot.key == key)) ≡ false
other_slot own key slot (inl is) other = ap (λ (s : PinSlot). is_present s && (s.key == key)) is
other_slot own key slot (inr is) other = ap (λ b. is_present slot && b) (ne_eqb slot.key key (λ e. other (sym is.own ∙ e))) ∙ and_false (is_present slot) where
  and_false : (b : Bool) → (b && false) ≡ false
  and_false true = refl
  and_false false = refl

own_slot : (key : ℕ) (slot : PinSlot) → IsSlot key slot → (is_present slot && (slot.key == key)) ≡ is_present slot
own_slot key slot (inl is) = ap (λ (s : PinSlot). is_present s && (s.key == key)) is ∙ sym (ap is_present is)
own_slot key slot (inr is) = ap (λ b. is_present slot && b) (eq-eqb slot.key key is.own) ∙ and_true (is_present slot) where
  and_true : (b : Bool) → (b && true) ≡ b
  and_true true = refl
  and_true false = refl

order_of : (own order : ℕ) (slot : PinSlot) → IsSlot own slot → slot_of_key own ≡ order → is_present slot ≡ true → slot_of_key slot.key ≡ order
order_of own order slot (inl is) same there = absurd (cc (sym (ap is_present is) ∙ there))
order_of own order slot (inr is) same there = ap slot_of_key is.own ∙ same

module _ (a b c : PinSlot) (first : IsSlot 0x01 a) (second : IsSlot 0x81 b) (third : IsSlot 0x0A c) where
  abbrev some : ℕ → Bool
  some key = list_any (λ other. other.key == key) (pins_in (a ∷ b ∷ c ∷ []))

  abbrev has : PinSlot → ℕ → Bool
  has slot key = is_present slot && (slot.key == key)

  some_is : (key : ℕ) (x y z : Bool) → has a key ≡ x → has b key ≡ y → has c key ≡ z → some key ≡ (x || (y || (z || false)))
  some_is key x y z e f g =
      list_any-passing is_present pin_state (λ other. other.key == key) (a ∷ b ∷ c ∷ []) ∙ ap (λ t. t || (has b key || (has c key || false))) e
      ∙ ap (λ t. x || (t || (has c key || false))) f ∙ ap (λ t. x || (y || (t || false))) g

  or_false : (b : Bool) → (b || false) ≡ b
  or_false true = refl
  or_false false = refl

  pub taken : (k : ℕ) → k < 3 → some (key_of_slot k) ≡ is_present (get_or (a ∷ b ∷ c ∷ []) k absent_pin)
  taken zero low =
      some_is 0x01 (is_present a) false false (own_slot 0x01 a first) (other_slot 0x81 0x01 b second (λ e. omega arith)) (other_slot 0x0A 0x01 c third (λ e. omega arith)) ∙ or_false (is_present a)
  taken (suc zero) low =
      some_is 0x81 false (is_present b) false (other_slot 0x01 0x81 a first (λ e. omega arith)) (own_slot 0x81 b second) (other_slot 0x0A 0x81 c third (λ e. omega arith)) ∙ or_false (is_present b)
  taken (suc (suc zero)) low =
      some_is 0x0A false false (is_present c) (other_slot 0x01 0x0A a first (λ e. omega arith)) (other_slot 0x81 0x0A b second (λ e. omega arith)) (own_slot 0x0A c third) ∙ or_false (is_present c)
  taken (suc (suc (suc k))) low = absurd (omega arith)

  ordered : IsOrdered is_present (λ k slot. pin_state slot) (λ pin. slot_of_key pin.key) 0 (a ∷ b ∷ c ∷ [])
  ordered = (order_of 0x01 0 a first refl, (order_of 0x81 1 b second refl, (order_of 0x0A 2 c third refl, tt)))

  pub put_in : (k : ℕ) (pin : PinSlot) → k < 3 → is_present (get_or (a ∷ b ∷ c ∷ []) k absent_pin) ≡ false → is_present pin ≡ true → slot_of_key pin.key ≡ k
      → pins_in (set (a ∷ b ∷ c ∷ []) k pin) ≡ with_pin (pins_in (a ∷ b ∷ c ∷ [])) (pin_state pin)
  put_in k pin low free there place =
      let slots : List PinSlot = a ∷ b ∷ c ∷ [] in
      let old : List Pin = pins_in slots in
      let same : old ≡ map (λ entry. pin_state entry.1) (filter (λ entry. is_present entry.1) (enumerate_from 0 slots)) = unnumbered is_present pin_state 0 slots in
      unnumbered is_present pin_state 0 (set slots k pin)
      ∙ one_more is_present (λ k slot. pin_state slot) (λ pin. slot_of_key pin.key) k 0 k slots pin absent_pin (omega arith) low free there ordered
      ∙ ap (λ l. filter (λ other. nat_lt (slot_of_key other.key) k) l ++ pin_state pin ∷ filter (λ other. nat_lt k (slot_of_key other.key)) l) (sym same)
      ∙ ap (λ n. filter (λ other. nat_lt (slot_of_key other.key) n) old ++ pin_state pin ∷ filter (λ other. nat_lt n (slot_of_key other.key)) old) (sym place)
      ∙ sym (append_assoc (filter (λ other. nat_lt (slot_of_key other.key) (slot_of_key pin.key)) old) (pin_state pin ∷ []) (filter (λ other. nat_lt (slot_of_key pin.key) (slot_of_key other.key)) old))

Changes_made : {X : Type 0} (allowed : Bool) (changed old new : X) → allowed ≡ true → new ≡ changed → Changes allowed changed old (Ok tt) new
Changes_made true changed old new is same = (refl, same)
Changes_made false changed old new is same = absurd (cc is)

Changes_refused : {X : Type 0} (allowed : Bool) (changed old : X) → allowed ≡ false → Changes allowed changed old (Err Bad) old
Changes_refused true changed old is = absurd (cc is)
Changes_refused false changed old is = (refl, refl)

-- whether a PIN may be added is whether its slot is empty
allowed : (slots : List PinSlot) (k : ℕ) (pin : PinSlot) → length slots ≡ 3 → AreSlotsOf slots → k < 3 → pin.key ≡ key_of_slot k → (pin.enabled || not (pin.key == 0x0A)) ≡ true
    → is_new_pin (pins_in slots) (pin_state pin) ≡ not (is_present (get_or slots k absent_pin))
allowed [] k pin long are low key may = absurd (omega arith)
allowed (a ∷ []) k pin long are low key may = absurd (omega arith)
allowed (a ∷ (b ∷ [])) k pin long are low key may = absurd (omega arith)
allowed (a ∷ (b ∷ (c ∷ (d ∷ rest)))) k pin long are low key may = absurd (omega arith)
allowed (a ∷ (b ∷ (c ∷ []))) k pin long are low key may =
    let old : List Pin = pins_in (a ∷ b ∷ c ∷ []) in
    let free : list_any (λ other. other.key == pin.key) old ≡ is_present (get_or (a ∷ b ∷ c ∷ []) k absent_pin) =
    ap (λ n. list_any (λ other. other.key == n) old) key ∙ taken a b c (are 0 (omega arith)) (are 1 (omega arith)) (are 2 (omega arith)) k low in
    ap (λ t. t && not (list_any (λ other. other.key == pin.key) old) && (pin.enabled || not (pin.key == 0x0A))) (ap is_key key ∙ known_key k low)
    ∙ ap (λ t. not t && (pin.enabled || not (pin.key == 0x0A))) free ∙ ap (λ t. not (is_present (get_or (a ∷ b ∷ c ∷ []) k absent_pin)) && t) may
    ∙ and_true (not (is_present (get_or (a ∷ b ∷ c ∷ []) k absent_pin))) where
      known_key : (k : ℕ) → k < 3 → is_key (key_of_slot k) ≡ true
      known_key zero low = refl
      known_key (suc zero) low = refl
      known_key (suc (suc zero)) low = refl
      known_key (suc (suc (suc k))) low = absurd (omega arith)

      and_true : (b : Bool) → (b && true) ≡ b
      and_true true = refl
      and_true false = refl

with_slot : (slots : List PinSlot) (k : ℕ) (pin : PinSlot) → length slots ≡ 3 → AreSlotsOf slots → k < 3 → pin.key ≡ key_of_slot k → is_present (get_or slots k absent_pin) ≡ false
    → pins_in (set slots k pin) ≡ with_pin (pins_in slots) (pin_state pin)
with_slot [] k pin long are low key free = absurd (omega arith)
with_slot (a ∷ []) k pin long are low key free = absurd (omega arith)
with_slot (a ∷ (b ∷ [])) k pin long are low key free = absurd (omega arith)
with_slot (a ∷ (b ∷ (c ∷ (d ∷ rest)))) k pin long are low key free = absurd (omega arith)
with_slot (a ∷ (b ∷ (c ∷ []))) k pin long are low key free =
    put_in a b c (are 0 (omega arith)) (are 1 (omega arith)) (are 2 (omega arith)) k pin low free (ap (λ n. not (n == 0)) key ∙ some_key k low) (ap slot_of_key key ∙ place k low) where
      some_key : (k : ℕ) → k < 3 → not (key_of_slot k == 0) ≡ true
      some_key zero low = refl
      some_key (suc zero) low = refl
      some_key (suc (suc zero)) low = refl
      some_key (suc (suc (suc k))) low = absurd (omega arith)

      place : (k : ℕ) → k < 3 → slot_of_key (key_of_slot k) ≡ k
      place zero low = refl
      place (suc zero) low = refl
      place (suc (suc zero)) low = refl
      place (suc (suc (suc k))) low = absurd (omega arith)

empty : (slot : PinSlot) → slot.key ≡ 0 → is_present slot ≡ false
empty slot is = ap (λ n. not (n == 0)) is

pub pin_added : (slots : List PinSlot) (k : ℕ) (pin d : PinSlot) → length slots ≡ 3 → AreSlotsOf slots → k < 3 → pin.key ≡ key_of_slot k → (pin.enabled || not (pin.key == 0x0A)) ≡ true
    → (get_or slots k d).key ≡ 0
    → Changes (is_new_pin (pins_in slots) (pin_state pin)) (with_pin (pins_in slots) (pin_state pin)) (pins_in slots) (Ok tt) (pins_in (set slots k pin))
pin_added slots k pin d long are low key may free =
    let is_empty : is_present (get_or slots k absent_pin) ≡ false = empty (get_or slots k absent_pin) (ap (λ (s : PinSlot). s.key) (get_or_default slots k absent_pin d (omega arith)) ∙ free) in
    Changes_made (is_new_pin (pins_in slots) (pin_state pin)) (with_pin (pins_in slots) (pin_state pin)) (pins_in slots) (pins_in (set slots k pin)) (allowed slots k pin long are low key may ∙ ap not is_empty)
    (with_slot slots k pin long are low key is_empty)

pub pin_refused : (slots : List PinSlot) (k : ℕ) (pin d : PinSlot) → length slots ≡ 3 → AreSlotsOf slots → k < 3 → pin.key ≡ key_of_slot k → (pin.enabled || not (pin.key == 0x0A)) ≡ true
    → ((get_or slots k d).key ≡ 0 → ⊥) → Changes (is_new_pin (pins_in slots) (pin_state pin)) (with_pin (pins_in slots) (pin_state pin)) (pins_in slots) (Err Bad) (pins_in slots)
pin_refused slots k pin d long are low key may there =
    Changes_refused (is_new_pin (pins_in slots) (pin_state pin)) (with_pin (pins_in slots) (pin_state pin)) (pins_in slots)
    (allowed slots k pin long are low key may ∙ ap (λ t. not (not t)) (ne_eqb (get_or slots k absent_pin).key 0 (λ e. there (ap (λ (s : PinSlot). s.key) (get_or_default slots k d absent_pin (omega arith)) ∙ e))))

no_slot_step : (key_is some may : Bool) → (key_is && may) ≡ false → (key_is && not some && may) ≡ false
no_slot_step true true may is = refl
no_slot_step true false may is = is
no_slot_step false some may is = refl

pub no_slot : (pins : List Pin) (pin : Pin) → may_have_pin pin.key pin.is_enabled ≡ false → Changes (is_new_pin pins pin) (with_pin pins pin) pins (Err Bad) pins
no_slot pins pin is =
    Changes_refused (is_new_pin pins pin) (with_pin pins pin) pins (no_slot_step (is_key pin.key) (list_any (λ other. other.key == pin.key) pins) (pin.is_enabled || not (pin.key == 0x0A)) is)
