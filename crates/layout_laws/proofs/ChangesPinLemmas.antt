-- A commit of a PIN slot.
use Rattle.std.proofs.Common.{◌≡◌, ◌≢◌, ℕ, zero, suc, ◌+◌, ◌-◌, ◌≤◌, ◌<◌, ◌==◌, Bool, true, false, not, if◌then◌else◌, List, [], ◌∷◌, length, drop, map, filter, slice_get, slice_range, Some, None, All, AllPairs, Contains, set, refl, sym, ◌∙◌, ap, inl, subst, lit≤, arith, length-take}
use Rattle.std.proofs.lemmas.List.Elements.{All-head, All-tail}
use Rattle.std.proofs.lemmas.Option.{same_Some}
use Rattle.std.proofs.lemmas.Bool.Decides.{nat_tests}
use Rattle.list_laws.specs.Patches.{patched}
use Rattle.list_laws.proofs.MapLemmas.{mapped_too}
use Rattle.list_laws.proofs.AllContainsLemmas.{contained}
use Rattle.card_state.specs.Standing.{state_in}
use Rattle.card_state.specs.declared.entries.PinSlot.{PinSlot}
use Rattle.card_state.specs.declared.entries.Loaded.{Loaded}
use Rattle.card_state.specs.Blank.{absent_pin}
use Rattle.card_state.specs.Places.{pin_place}
use Rattle.card_state.specs.Decoding.{is_wide, pin_at, table_of}
use Rattle.card_state.specs.Persistent.{File, Pin}
use Rattle.card_state.specs.States.{pin_state, present_pins, files_of, pins_of, rows_of, state_of}
use Rattle.card_state.specs.Soundness.{slot_of_key}
use Rattle.card_state.specs.Ranges.{HasPinRanges}
use Rattle.card_state.specs.Used.{HasPin, HasOwnKeys, pin_if}
use Rattle.card_state.specs.Changing.{with_pin_in, with_pin_for}
use Rattle.layout_entries.specs.Spelling.{pin_part, pin_spelled}
use Rattle.layout_entries.specs.Fields.{pin_fields, AreWholeFields, merged_pin, pin_there, shown_pin}
use Rattle.layout_entries.specs.Laws.{after, KeepsBytesBeside, ChangesOnePin}
use Rattle.layout_laws.specs.Cards.{IsCard, Holds}
use Rattle.layout_laws.proofs.ShownNodeLemmas.{shown_pin_there}
use Rattle.layout_laws.specs.Changes.{with_slot}
use Rattle.layout_laws.proofs.PresentPinsLemmas.{pins_anew}
use Rattle.layout_laws.proofs.EnumerateFromLemmas.{got_numbered}
use Rattle.layout_laws.proofs.ChangesRowLemmas.{files_stay}
use Rattle.layout_laws.proofs.ChangesFileLemmas.{beside_files}

filtered_there : {X : Type 0} (test : X → Bool) (xs : List X) (k : ℕ) (x : X) → slice_get xs k ≡ Some x → test x ≡ true → Contains (filter test xs) x
filtered_there test [] k x there passes = absurd (let none : None ≡ Some x = there in cc)
filtered_there test (y ∷ ys) zero x there passes = subst (λ z. Contains (filter test (z ∷ ys)) x) (sym (same_Some y x there)) (rw passes (0, omega arith, refl))
filtered_there test (y ∷ ys) (suc k) x there passes = by_test (test y) (filtered_there test ys k x there passes) where
  by_test : (b : Bool) → Contains (filter test ys) x → Contains (if b then y ∷ filter test ys else filter test ys) x
  by_test true rest = (suc rest.0, omega (arith, rest.1), rest.2)
  by_test false rest = rest

abbrev is_present : PinSlot → Bool
is_present pin = not (pin.key == 0)

present : (pin : PinSlot) → pin.key ≢ 0 → is_present pin ≡ true
present pin other = let is : (pin.key == 0) ≡ false = grind (arith, nat_tests) in ap not is

abbrev repinned : Pin → Pin → Pin
repinned pin other = if other.key == pin.key then pin else other

abbrev keys_differ : Pin → Pin → Type 0
keys_differ a b = a.key ≢ b.key

others_stay : (pin : Pin) (pins : List Pin) → All (λ other. pin.key ≢ other.key) pins → map (repinned pin) pins ≡ pins
others_stay pin [] others = refl
others_stay pin (other ∷ pins) others =
    let ne : pin.key ≢ other.key = All-head (λ (o : Pin). pin.key ≢ o.key) other pins others in
    let is : (other.key == pin.key) ≡ false = grind (arith, nat_tests) in
    ap (λ (b : Bool). (if b then pin else other) ∷ map (repinned pin) pins) is
    ∙ ap (λ (list : List Pin). other ∷ list) (others_stay pin pins (All-tail (λ (o : Pin). pin.key ≢ o.key) other pins others))

this_changes : (y new : PinSlot) (rest : List PinSlot) → y.key ≡ new.key → AllPairs keys_differ (pin_state y ∷ map pin_state rest)
    → pin_state new ∷ map pin_state rest ≡ map (repinned (pin_state new)) (pin_state y ∷ map pin_state rest)
this_changes y new rest same pairs =
    let is : (y.key == new.key) ≡ true = grind (arith, nat_tests) in
    let others : All (λ (other : Pin). new.key ≢ other.key) (map pin_state rest) = λ k d low e. pairs 0 (suc k) d (omega arith) (omega arith) (same ∙ e) in
    ap (λ (list : List Pin). pin_state new ∷ list) (sym (others_stay (pin_state new) (map pin_state rest) others))
    ∙ ap (λ (b : Bool). (if b then pin_state new else pin_state y) ∷ map (repinned (pin_state new)) (map pin_state rest)) (sym is)

another_stays : (y new : PinSlot) (rest rest' : List PinSlot) → y.key ≢ new.key → map pin_state rest' ≡ map (repinned (pin_state new)) (map pin_state rest)
    → pin_state y ∷ map pin_state rest' ≡ map (repinned (pin_state new)) (pin_state y ∷ map pin_state rest)
another_stays y new rest rest' other changed =
    let is : (y.key == new.key) ≡ false = grind (arith, nat_tests) in
    ap (λ (list : List Pin). pin_state y ∷ list) changed ∙ ap (λ (b : Bool). (if b then pin_state new else pin_state y) ∷ map (repinned (pin_state new)) (map pin_state rest)) (sym is)

-- the slot of one key set anew is the PIN of that key
present-set : (pins : List PinSlot) (k : ℕ) (old new : PinSlot) → slice_get pins k ≡ Some old → old.key ≢ 0 → new.key ≡ old.key → AllPairs keys_differ (map pin_state (present_pins pins))
    → map pin_state (present_pins (set pins k new)) ≡ map (repinned (pin_state new)) (map pin_state (present_pins pins))
present-set [] k old new there key same pairs = absurd (let none : None ≡ Some old = there in cc)
present-set (y ∷ ys) zero old new there key same pairs =
    let is : y ≡ old = same_Some y old there in
    let there_too : is_present y ≡ true = ap is_present is ∙ present old key in
    let new_too : is_present new ≡ true = present new (λ none. key (sym same ∙ none)) in
    let rest : List PinSlot = present_pins ys in
    let known : AllPairs keys_differ (map pin_state (y ∷ rest)) = subst (λ (b : Bool). AllPairs keys_differ (map pin_state (if b then y ∷ rest else rest))) there_too pairs in
    ap (λ (b : Bool). map pin_state (if b then new ∷ rest else rest)) new_too ∙ this_changes y new rest (ap (λ (p : PinSlot). p.key) is ∙ sym same) known
    ∙ ap (λ (b : Bool). map (repinned (pin_state new)) (map pin_state (if b then y ∷ rest else rest))) (sym there_too)
present-set (y ∷ ys) (suc k) old new there key same pairs = by_test (is_present y) (λ later. present-set ys k old new there key same later) pairs where
  Changed : Type 0
  Changed = map pin_state (present_pins (set ys k new)) ≡ map (repinned (pin_state new)) (map pin_state (present_pins ys))

  by_test : (b : Bool) → (AllPairs keys_differ (map pin_state (present_pins ys)) → Changed) → AllPairs keys_differ (map pin_state (if b then y ∷ present_pins ys else present_pins ys))
      → map pin_state (if b then y ∷ present_pins (set ys k new) else present_pins (set ys k new)) ≡ map (repinned (pin_state new)) (map pin_state (if b then y ∷ present_pins ys else present_pins ys))
  by_test true changed known =
      let later : AllPairs keys_differ (map pin_state (present_pins ys)) = λ i j d less low. known (suc i) (suc j) d (omega arith) (omega arith) in
      let among : Contains (map pin_state (present_pins ys)) (pin_state old) = mapped_too pin_state (present_pins ys) old (filtered_there is_present ys k old there (present old key)) in
      let others : All (λ (other : Pin). y.key ≢ other.key) (map pin_state (present_pins ys)) = λ i d low. known 0 (suc i) d (omega arith) (omega arith) in
      let other : y.key ≢ new.key = λ e. contained (λ (p : Pin). y.key ≢ p.key) (map pin_state (present_pins ys)) (pin_state old) others among (e ∙ same) in
      another_stays y new (present_pins ys) (present_pins (set ys k new)) other (changed later)
  by_test false changed known = changed known

slot_count : (content : List ℕ) → length (table_of content).pins ≡ 3
unfolding table_of
slot_count content = refl

shown_if_present : (pin : PinSlot) → pin.key ≢ 0 → shown_pin pin ≡ pin
shown_if_present pin key = let is : (pin.key == 0) ≡ false = grind (arith, nat_tests) in ap (λ (b : Bool). if b then absent_pin else pin) is

module _ (beside : KeepsBytesBeside) (content : List ℕ) (card : IsCard content) where
  -- their keys have an order
  distinct_pins : AllPairs keys_differ (map pin_state (present_pins (table_of content).pins))
  unfolding state_of files_of pins_of rows_of
  distinct_pins i j d less low same =
      let order = card.sound.ordered_pins i j d less low in
      absurd (omega (arith, order, ap slot_of_key same))

  pub pin_in_slot : (slot : ℕ) (pin : PinSlot) → HasPin (table_of content) slot pin → (slot < 3) × (pin_there content slot ≡ pin)
  unfolding table_of
  pin_in_slot slot pin has =
      let found : (slot < 3) × (pin_at content (0 + slot) ≡ pin) = got_numbered (pin_at content) 0 3 slot pin has.there in
      let same : slot ≡ 0 + slot = omega arith in
      (found.0, shown_pin_there (pin_there content slot) pin (ap (pin_at content) same ∙ found.1) has.key)

  -- the slot as it is after a commit of some of its bytes
  pub pin_anew : (slot from to : ℕ) (old pin new : PinSlot) → HasPin (table_of content) slot old → from ≤ to → to ≤ 20
      → table_of (after (pin_part slot pin from to) content) ≡ record (table_of content) { pins = set (table_of content).pins slot (shown_pin new) } → new.key ≡ old.key
      → Holds (after (pin_part slot pin from to) content) (with_slot (table_of content) slot new) (with_pin_for (state_in content) (pin_state new))
  unfolding state_of files_of pins_of rows_of
  pin_anew slot from to old pin new has order inside shown same =
      let there : slot < 3 = (pin_in_slot slot old has).0 in
      let bytes : List ℕ = slice_range (pin_spelled pin) from to in
      let place : ℕ = pin_place slot + from in
      let now : List ℕ = patched place bytes content in
      let few : length bytes ≤ to - from = omega (arith, length-take (to - from) (drop from (pin_spelled pin))) in
      let ends : place + length bytes ≤ 3968 = omega arith in
      let table : table_of now ≡ record (table_of content) { pins = set (table_of content).pins slot new } =
      shown ∙ ap (λ (p : PinSlot). record (table_of content) { pins = set (table_of content).pins slot p }) (shown_if_present new (λ none. has.key (sym same ∙ none))) in
      let changed : state_in now ≡ with_pin_for (state_in content) (pin_state new) =
      ap (λ (t : Loaded). state_of t now) table
      ∙ ap (λ (files : List File). record (state_in content) { files = files; pins = map pin_state (present_pins (set (table_of content).pins slot new)) })
      (files_stay content card now (λ n lies other. beside_files beside (is_wide content) content bytes place n card.long (omega arith) (inl ends) lies other))
      ∙ ap (λ (pins : List Pin). record (state_in content) { pins = pins }) (present-set (table_of content).pins slot old new has.there has.key same distinct_pins) in
      record { entries = shown; held = changed }

module _ (beside : KeepsBytesBeside) (changes : ChangesOnePin) (content : List ℕ) (card : IsCard content) where
  pub pin_changed : (slot from to : ℕ) (old new : PinSlot) → HasPin (table_of content) slot old → AreWholeFields pin_fields 20 from to → HasPinRanges new → merged_pin from to old new ≡ new → new.key ≡ old.key
      → Holds (after (pin_part slot new from to) content) (with_slot (table_of content) slot new) (with_pin_for (state_in content) (pin_state new))
  pin_changed slot from to old new has fields ranges rest same =
      let there : (slot < 3) × (pin_there content slot ≡ old) = pin_in_slot beside content card slot old has in
      pin_anew beside content card slot from to old new new has fields.order fields.inside
      (changes content slot from to new card.long there.0 fields ranges
      ∙ ap (λ (p : PinSlot). record (table_of content) { pins = set (table_of content).pins slot (shown_pin p) }) (ap (λ (p : PinSlot). merged_pin from to p new) there.1 ∙ rest))
      same

  -- a whole slot
  pub pin_added : (slot : ℕ) (pin : PinSlot) → HasOwnKeys (table_of content) → slot < 3 → HasPinRanges pin
      → Holds (after (pin_part slot pin 0 20) content) (with_slot (table_of content) slot pin) (with_pin_in (state_in content) slot (pin_if pin))
  unfolding state_of files_of pins_of rows_of merged_pin
  pin_added slot pin own low ranges =
      let bytes : List ℕ = slice_range (pin_spelled pin) 0 20 in
      let place : ℕ = pin_place slot + 0 in
      let now : List ℕ = patched place bytes content in
      let few : length bytes ≤ 20 = omega (arith, length-take (20 - 0) (drop 0 (pin_spelled pin))) in
      let ends : place + length bytes ≤ 3968 = omega arith in
      let table : table_of now ≡ record (table_of content) { pins = set (table_of content).pins slot (shown_pin pin) } =
      changes content slot 0 20 pin card.long low (record { order = lit≤ tt; inside = lit≤ tt; uncut = refl }) ranges in
      let changed : state_in now ≡ with_pin_in (state_in content) slot (pin_if pin) =
      ap (λ (t : Loaded). state_of t now) table
      ∙ ap (λ (files : List File). record (state_in content) { files = files; pins = map pin_state (present_pins (set (table_of content).pins slot (shown_pin pin))) })
      (files_stay content card now (λ n lies other. beside_files beside (is_wide content) content bytes place n card.long (omega arith) (inl ends) lies other))
      ∙ ap (λ (pins : List Pin). record (state_in content) { pins = pins }) (pins_anew content own slot low pin (slot_count content)) in
      record { entries = table; held = changed }
