-- The PINs of the slots that have one, each by the number of its slot.
use Rattle.std.proofs.Common.{◌≡◌, ◌⊎◌, ℕ, zero, suc, ◌+◌, ◌≤◌, ◌<◌, ◌==◌, Bool, true, false, not, nat_lt, if◌then◌else◌, List, [], ◌∷◌, ◌++◌, length, map, filter, slice_get, Option, Some, None, set, refl, sym, ◌∙◌, ap, inl, inr, ⊎_elim, arith}
use Rattle.std.proofs.lemmas.Bool.{cases_Bool, eqb-true}
use Rattle.std.proofs.lemmas.Bool.Decides.{nat_tests}
use Rattle.card_state.specs.declared.entries.PinSlot.{PinSlot}
use Rattle.card_state.specs.Blank.{absent_pin}
use Rattle.card_state.specs.Persistent.{Pin}
use Rattle.card_state.specs.States.{pin_state, present_pins}
use Rattle.card_state.specs.Decoding.{pin_at, table_of}
use Rattle.card_state.specs.Soundness.{slot_of_key}
use Rattle.card_state.specs.Checks.{key_of_slot}
use Rattle.card_state.specs.Used.{HasOwnKeys, pin_if}
use Rattle.card_state.specs.Changing.{listed, placed}
use Rattle.layout_entries.specs.Fields.{shown_pin}

abbrev pub pins_in : List PinSlot → List Pin
pins_in pins = map pin_state (present_pins pins)

abbrev slot_of : Pin → ℕ
slot_of pin = slot_of_key pin.key

abbrev below : ℕ → List Pin → List Pin
below n = filter (λ pin. nat_lt (slot_of pin) n)

abbrev above : ℕ → List Pin → List Pin
above n = filter (λ pin. nat_lt n (slot_of pin))

-- a slot with this number has no key, or its own
abbrev HasOwnKey : ℕ → PinSlot → Type 0
HasOwnKey slot pin = (pin.key ≡ 0) ⊎ (slot_of_key pin.key ≡ slot)

abbrev pub HaveOwnKeys : ℕ → List PinSlot → Type 0
HaveOwnKeys start [] = Unit {0}
HaveOwnKeys start (pin ∷ pins) = HasOwnKey start pin × HaveOwnKeys (start + 1) pins

own_slot : (start : ℕ) (pin : PinSlot) → HasOwnKey start pin → not (pin.key == 0) ≡ true → slot_of_key pin.key ≡ start
own_slot start pin own present = ⊎_elim {C = slot_of_key pin.key ≡ start} (λ none. absurd (grind (arith, nat_tests))) (λ is. is) own

-- the PIN of a slot, if it has one, before others
abbrev front : Bool → PinSlot → List Pin → List Pin
front present pin pins = if present then pin_state pin ∷ pins else pins

pins_in-cons : (pin : PinSlot) (pins : List PinSlot) → pins_in (pin ∷ pins) ≡ front (not (pin.key == 0)) pin (pins_in pins)
pins_in-cons pin pins = by_test (not (pin.key == 0)) where
  by_test : (b : Bool) → map pin_state (if b then pin ∷ present_pins pins else present_pins pins) ≡ front b pin (pins_in pins)
  by_test true = refl
  by_test false = refl

none_below : (start n : ℕ) (pins : List PinSlot) → HaveOwnKeys start pins → n ≤ start → below n (pins_in pins) ≡ []
none_below start n [] own low = refl
none_below start n (pin ∷ pins) own low = ap (below n) (pins_in-cons pin pins) ∙ by_test (not (pin.key == 0)) refl (none_below (start + 1) n pins own.1 (omega arith)) where
  by_test : (b : Bool) → not (pin.key == 0) ≡ b → below n (pins_in pins) ≡ [] → below n (front b pin (pins_in pins)) ≡ []
  by_test true present rest =
      let here : slot_of_key pin.key ≡ start = own_slot start pin own.0 present in
      let failed : nat_lt (slot_of_key pin.key) n ≡ false = grind (arith, nat_tests) in
      rw failed rest
  by_test false absent rest = rest

all_above : (start n : ℕ) (pins : List PinSlot) → HaveOwnKeys start pins → n < start → above n (pins_in pins) ≡ pins_in pins
all_above start n [] own low = refl
all_above start n (pin ∷ pins) own low =
    ap (above n) (pins_in-cons pin pins) ∙ by_test (not (pin.key == 0)) refl (all_above (start + 1) n pins own.1 (omega arith)) ∙ sym (pins_in-cons pin pins) where
      by_test : (b : Bool) → not (pin.key == 0) ≡ b → above n (pins_in pins) ≡ pins_in pins → above n (front b pin (pins_in pins)) ≡ front b pin (pins_in pins)
      by_test true present rest =
          let here : slot_of_key pin.key ≡ start = own_slot start pin own.0 present in
          let passed : nat_lt n (slot_of_key pin.key) ≡ true = grind (arith, nat_tests) in
          rw passed (ap (λ (l : List Pin). pin_state pin ∷ l) rest)
      by_test false absent rest = rest

others_above : (start n : ℕ) (pin : PinSlot) (pins : List PinSlot) → HaveOwnKeys start (pin ∷ pins) → n ≡ start → above n (pins_in (pin ∷ pins)) ≡ pins_in pins
others_above start n pin pins own same =
    ap (above n) (pins_in-cons pin pins) ∙ by_test (not (pin.key == 0)) refl (all_above (start + 1) n pins own.1 (omega arith)) where
      by_test : (b : Bool) → not (pin.key == 0) ≡ b → above n (pins_in pins) ≡ pins_in pins → above n (front b pin (pins_in pins)) ≡ pins_in pins
      by_test true present rest =
          let here : slot_of_key pin.key ≡ start = own_slot start pin own.0 present in
          let failed : nat_lt n (slot_of_key pin.key) ≡ false = grind (arith, nat_tests) in
          rw failed rest
      by_test false absent rest = rest

-- the PIN of a slot, if it has one
abbrev shown : PinSlot → Option Pin
shown pin = if not (pin.key == 0) then Some (pin_state pin) else None

front_listed : (pin : PinSlot) (pins : List Pin) → front (not (pin.key == 0)) pin pins ≡ [] ++ listed (shown pin) ++ pins
front_listed pin pins = by_test (not (pin.key == 0)) where
  by_test : (b : Bool) → front b pin pins ≡ [] ++ listed (if b then Some (pin_state pin) else None) ++ pins
  by_test true = refl
  by_test false = refl

pins_set : (start k slot : ℕ) (pins : List PinSlot) (new : PinSlot) → k < length pins → HaveOwnKeys start pins → slot ≡ start + k → pins_in (set pins k new) ≡ placed slot_of slot (shown new) (pins_in pins)
pins_set start k slot [] new low own same = absurd (omega arith)
pins_set start zero slot (pin ∷ pins) new low own same =
    pins_in-cons new pins ∙ front_listed new (pins_in pins)
    ∙ ap (λ (l : List Pin). l ++ listed (shown new) ++ pins_in pins) (sym (none_below start slot (pin ∷ pins) own (omega arith)))
    ∙ ap (λ (l : List Pin). below slot (pins_in (pin ∷ pins)) ++ listed (shown new) ++ l) (sym (others_above start slot pin pins own (omega arith)))
pins_set start (suc k) slot (pin ∷ pins) new low own same =
    pins_in-cons pin (set pins k new) ∙ ap (front (not (pin.key == 0)) pin) (pins_set (start + 1) k slot pins new (omega arith) own.1 (omega arith)) ∙ by_test (not (pin.key == 0)) refl
    ∙ ap (λ (l : List Pin). placed slot_of slot (shown new) l) (sym (pins_in-cons pin pins)) where
      by_test : (b : Bool) → not (pin.key == 0) ≡ b → front b pin (placed slot_of slot (shown new) (pins_in pins)) ≡ placed slot_of slot (shown new) (front b pin (pins_in pins))
      by_test true present =
          let here : slot_of_key pin.key ≡ start = own_slot start pin own.0 present in
          let is_below : nat_lt (slot_of_key pin.key) slot ≡ true = grind (arith, nat_tests) in
          let not_above : nat_lt slot (slot_of_key pin.key) ≡ false = grind (arith, nat_tests) in
          rw (is_below, not_above) refl
      by_test false absent = refl

shown_if : (pin : PinSlot) → shown (shown_pin pin) ≡ pin_if pin
shown_if pin = by_test (pin.key == 0) refl where
  by_test : (b : Bool) → (pin.key == 0) ≡ b → shown (if b then absent_pin else pin) ≡ (if b then None else Some (pin_state pin))
  by_test true is = refl
  by_test false is = ap (λ (b : Bool). let o : Option Pin = if not b then Some (pin_state pin) else None in o) is

own_keys : (content : List ℕ) → HasOwnKeys (table_of content) → HaveOwnKeys 0 (table_of content).pins
unfolding table_of
own_keys content own = (one 0 refl refl, (one 1 refl refl, (one 2 refl refl, tt))) where
  one : (slot : ℕ) → slot_of_key (key_of_slot slot) ≡ slot → slice_get (table_of content).pins slot ≡ Some (pin_at content slot) → HasOwnKey slot (pin_at content slot)
  one slot back there =
      let pin : PinSlot = pin_at content slot in
      ⊎_elim {C = HasOwnKey slot pin} (λ none. inl (eqb-true pin.key 0 none))
      (λ some. inr (ap slot_of_key (own slot pin (record { there = there; key = λ none. absurd (grind (arith, nat_tests)) })) ∙ back)) (cases_Bool (pin.key == 0))

-- the slots of a card with one set anew
pub pins_anew : (content : List ℕ) → HasOwnKeys (table_of content) → (slot : ℕ) → slot < 3 → (pin : PinSlot) → length (table_of content).pins ≡ 3
    → pins_in (set (table_of content).pins slot (shown_pin pin)) ≡ placed (λ p. slot_of_key p.key) slot (pin_if pin) (pins_in (table_of content).pins)
pins_anew content own slot low pin long =
    pins_set 0 slot slot (table_of content).pins (shown_pin pin) (omega arith) (own_keys content own) (omega arith)
    ∙ ap (λ (o : Option Pin). placed slot_of slot o (pins_in (table_of content).pins)) (shown_if pin)
