-- What the commit of a PIN makes of a card.
use Rattle.std.proofs.Common.{◌≡◌, ◌≢◌, ℕ, ◌-◌, ◌≤◌, ◌<◌, ◌==◌, Bool, false, if◌then◌else◌, List, [], ◌∷◌, length, slice_get, Option, Some, None, IsSomeAnd, All, drop, refl, sym, ◌∙◌, ap, subst, lit≤, lit<, arith, length-take, length-drop}
use Rattle.std.proofs.lemmas.Bool.Decides.{nat_tests}
use Rattle.std.proofs.lemmas.List.Elements.{All-contains}
use Rattle.std.proofs.lemmas.Option.{get_or_from_slice_get}
use Rattle.store_form.specs.Pieces.{Piece, applied, IsUsablePiece}
use Rattle.card_state.specs.declared.entries.PinSlot.{PinSlot}
use Rattle.card_state.specs.declared.entries.Loaded.{Loaded}
use Rattle.card_state.specs.Blank.{absent_pin}
use Rattle.card_state.specs.Places.{memory_size}
use Rattle.card_state.specs.Persistent.{Pin, Persistent}
use Rattle.card_state.specs.Ranges.{HasPinRanges}
use Rattle.card_state.specs.Soundness.{IsSoundPin}
use Rattle.card_state.specs.Standing.{Stands, Agrees}
use Rattle.card_state.specs.States.{pins_of, pin_state}
use Rattle.card_state.specs.Used.{HasPin}
use Rattle.file_model.specs.Pins.{with_pin}
use Rattle.layout_entries.specs.Fields.{merged_pin}
use Rattle.layout_entries.specs.Spelling.{pin_spelled, pin_part}
use Rattle.layout_entries.proofs.SpellingLemmas.{length-pin_spelled}
use Rattle.layout_laws.specs.Changes.{with_slot}
use Rattle.layout_laws.specs.Known.{StandingIsCard, StandingIsOfTable, SlotsArePins}
use Rattle.layout_laws.specs.StandingLaws.{ChangedPinStands}
use Rattle.layout_laws.specs.Writing.{IsPinChange}
use Rattle.card_commits.proofs.HasRecordLemmas.{one_usable}
use Rattle.card_commits.specs.declared.pins.PinChange.{PinChange}
use Rattle.card_commits.specs.declared.pins.PinChange.TheVariants.{Tries, UnblockTries, Value, Enabled, Unblocked}
use Rattle.card_commits.specs.Commits.{Commits}
use Rattle.card_commits.specs.Entries.{HasPinIn, pin_at, with_pin_at}
use Rattle.card_commits.specs.Pins.{changed_pin, HasFewTries, span_of, with_pin_changed}

-- a slot with a PIN
pub pin_there : (table : Loaded) (slot : ℕ) → HasPinIn table slot → HasPin table slot (pin_at table slot)
pin_there table slot has = by_entry (slice_get table.pins slot) refl has where
  by_entry : (entry : Option PinSlot) → slice_get table.pins slot ≡ entry → IsSomeAnd entry (λ pin. pin.key ≢ 0) → HasPin table slot (pin_at table slot)
  by_entry None is none = absurd none
  by_entry (Some pin) is key = rw (get_or_from_slice_get table.pins slot pin absent_pin is) (record { there = is; key = key })

-- a change sets whole fields and no others
is_change : (table : Loaded) (slot : ℕ) (pin : PinSlot) (change : PinChange) → HasPin table slot pin → pin.tries ≤ 3 → pin.unblock_tries ≤ 10 → HasFewTries change → HasPinRanges (changed_pin change pin)
    → IsPinChange table slot (span_of change).0 (span_of change).1 pin (changed_pin change pin)
unfolding merged_pin changed_pin
is_change table slot pin (Tries tries) has low low' few ranges =
    record { there = has; fields = record { order = lit≤ tt; inside = lit≤ tt; uncut = refl }; rest = refl; ranges = ranges; key = refl; tries = few; unblock_tries = low' }
is_change table slot pin (UnblockTries tries) has low low' few ranges =
    record { there = has; fields = record { order = lit≤ tt; inside = lit≤ tt; uncut = refl }; rest = refl; ranges = ranges; key = refl; tries = low; unblock_tries = few }
is_change table slot pin (Value value) has low low' few ranges =
    record { there = has; fields = record { order = lit≤ tt; inside = lit≤ tt; uncut = refl }; rest = refl; ranges = ranges; key = refl; tries = lit≤ tt; unblock_tries = low' }
is_change table slot pin (Enabled enabled) has low low' few ranges =
    record { there = has; fields = record { order = lit≤ tt; inside = lit≤ tt; uncut = refl }; rest = refl; ranges = ranges; key = refl; tries = lit≤ tt; unblock_tries = low' }
is_change table slot pin (Unblocked value) has low low' few ranges =
    record { there = has; fields = record { order = lit≤ tt; inside = lit≤ tt; uncut = refl }; rest = refl; ranges = ranges; key = refl; tries = lit≤ tt; unblock_tries = lit≤ tt }

same_key : (change : PinChange) (pin : PinSlot) → (changed_pin change pin).key ≡ pin.key
unfolding changed_pin
same_key (Tries tries) pin = refl
same_key (UnblockTries tries) pin = refl
same_key (Value value) pin = refl
same_key (Enabled enabled) pin = refl
same_key (Unblocked value) pin = refl

-- a PIN that is there is shown as it is
shown : (table : Loaded) (slot : ℕ) (pin : PinSlot) → pin.key ≢ 0 → with_slot table slot pin ≡ with_pin_at table slot pin
shown table slot pin key =
    let failed : (pin.key == 0) ≡ false = grind (arith, nat_tests, key) in
    ap (λ (b : Bool). let set : Loaded = with_pin_at table slot (if b then absent_pin else pin) in set) failed

module _ (is_card : StandingIsCard) (of_table : StandingIsOfTable) (slots : SlotsArePins) (mark : ℕ) (told : Option (List ℕ)) (table : Loaded) (slot : ℕ) (pin : PinSlot) (has : HasPin table slot pin) where
  sound_pin : (agrees : Agrees mark told table) → IsSoundPin (pin_state pin)
  sound_pin agrees =
      let card = is_card mark agrees.content table agrees.state agrees.stands in
      All-contains IsSoundPin agrees.state.pins (pin_state pin) (subst (λ (state : Persistent). All IsSoundPin state.pins) (sym card.1) card.0.sound.pins)
      (slots mark agrees.content table agrees.state slot pin agrees.stands has).there

  pub pin_commit : ChangedPinStands → (change : PinChange) (pieces : List Piece) (new : PinSlot) (from to : ℕ) → HasFewTries change → HasPinRanges new → new ≡ changed_pin change pin → (from, to) ≡ span_of change → pieces ≡ pin_part slot new from to ∷ []
      → Commits mark told table pieces (with_pin_at table slot new) (with_pin_changed change pin)
  pin_commit stands change pieces new from to few ranges same span is agrees =
      let sound = sound_pin agrees in
      let there = changed_pin change pin in
      let key : there.key ≢ 0 = λ none. has.key (sym (same_key change pin) ∙ none) in
      let stood = stands mark agrees.content table agrees.state slot (span_of change).0 (span_of change).1 pin there agrees.stands (is_change table slot pin change has sound.tries sound.unblock_tries few (subst HasPinRanges same ranges)) in
      let here = subst (λ (t : Loaded). Stands mark (applied (pin_part slot there (span_of change).0 (span_of change).1 ∷ []) agrees.content) t (with_pin_changed change pin agrees.state)) (shown table slot there key) stood in
      let first : from ≡ (span_of change).0 = ap (λ (pair : ℕ × ℕ). pair.0) span in
      let second : to ≡ (span_of change).1 = ap (λ (pair : ℕ × ℕ). pair.1) span in
      rw (is, first, second, same) here

  -- what the table tells of PINs afterwards
  pub pins_told : (change : PinChange) (pieces : List Piece) (table' : Loaded) → Agrees mark told table → Commits mark told table pieces table' (with_pin_changed change pin) → pins_of table' ≡ with_pin (pins_of table) (pin_state (changed_pin change pin))
  pins_told change pieces table' agrees commits =
      let old = (of_table mark agrees.content table agrees.state agrees.stands).1 in
      let new = (of_table mark (applied pieces agrees.content) table' (with_pin_changed change pin agrees.state) (commits agrees)).1 in
      sym new.pins ∙ ap (λ (pins : List Pin). with_pin pins (pin_state (changed_pin change pin))) old.pins

-- bytes of a slot may be named
pub slot_usable : (slot from to : ℕ) (pin : PinSlot) → slot < 3 → from < to → to ≤ 20 → length (pin_part slot pin from to).bytes ≡ to - from → IsUsablePiece memory_size (pin_part slot pin from to)
slot_usable slot from to pin low order inside long =
    record { some = omega (arith, long, order); range = record { inside = omega (arith, long, order, inside); outside = λ some below. absurd (omega arith) } }

pub part_long : (slot from to : ℕ) (pin : PinSlot) → HasPinRanges pin → from ≤ to → to ≤ 20 → length (pin_part slot pin from to).bytes ≡ to - from
part_long slot from to pin ranges order inside = omega (arith, length-pin_spelled pin ranges, length-take (to - from) (drop from (pin_spelled pin)), length-drop from (pin_spelled pin))

span_order : (change : PinChange) → ((span_of change).0 < (span_of change).1) × ((span_of change).1 ≤ 20)
span_order (Tries tries) = (lit< tt, lit≤ tt)
span_order (UnblockTries tries) = (lit< tt, lit≤ tt)
span_order (Value value) = (lit< tt, lit≤ tt)
span_order (Enabled enabled) = (lit< tt, lit≤ tt)
span_order (Unblocked value) = (lit< tt, lit≤ tt)

pub span_usable : (change : PinChange) (slot : ℕ) (pin : PinSlot) (span : ℕ × ℕ) (pieces : List Piece) → slot < 3 → HasPinRanges pin → span ≡ span_of change → pieces ≡ pin_part slot pin span.0 span.1 ∷ [] → All (IsUsablePiece memory_size) pieces
span_usable change slot pin span pieces low ranges is one =
    let order : (span.0 < span.1) × (span.1 ≤ 20) = subst (λ (s : ℕ × ℕ). (s.0 < s.1) × (s.1 ≤ 20)) (sym is) (span_order change) in
    one_usable (pin_part slot pin span.0 span.1) pieces one (slot_usable slot span.0 span.1 pin low order.0 order.1 (part_long slot span.0 span.1 pin ranges (omega (arith, order.0)) order.1))
