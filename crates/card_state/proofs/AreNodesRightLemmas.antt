-- What the checks tell of each entry by its number, and what they take.
use Rattle.std.proofs.Common.{◌≡◌, ℕ, ◌≤◌, ◌<◌, Bool, true, false, List, refl, sym, ◌∙◌, ap, subst, ⊎_elim, inl, inr, arith, ◌≢◌, ◌==◌, ◌⊎◌, ◌&&◌, ◌||◌, nat_le, slice_index}
use Rattle.std.proofs.lemmas.Bool.{cases_eq, and_parts, and_from, or_cases, or_left, or_right, eqb-true, eq-eqb, ne_eqb, leb-true, le-leb, not_from_false, not_from_true, false≢true}
use Rattle.card_state.specs.declared.entries.Node.{Node}
use Rattle.card_state.specs.declared.entries.PinSlot.{PinSlot}
use Rattle.card_state.specs.declared.entries.Row.{Row}
use Rattle.card_state.specs.Places.{sequence_place, row_count}
use Rattle.card_state.specs.Decoding.{number_at, is_wide, node_of, pin_of, node_bytes, pin_bytes, row_bytes, node_at, pin_at, row_at}
use Rattle.card_state.specs.Checks.{is_flag, is_pin, key_of_slot, row_there, rows_below, nodes_below, pin_check, row_check, node_check}
use Rattle.card_state.specs.Forms.{IsPinForm}
use Rattle.card_state.proofs.IsRegistrationLemmas.{IsRegistration, row_told, row_taken}
use Rattle.card_state.proofs.IsNodeLemmas.{IsMf, IsPlacedFile, flag_told, first_told, node_told, first_taken, node_taken}
use Rattle.card_state.proofs.StateOfLemmas.{is_file, is_present, is_taken, node_there, node_spelled, pin_present, pin_spelled, row_is_there, row_spelled}

pub record AreRowsRight (content : List ℕ) : Type 0 where
  pub flags : (shelf : ℕ) → shelf < row_count (is_wide content) → slice_index (row_bytes content shelf) 0 ≤ 1
  pub each : (shelf : ℕ) → is_taken content shelf ≡ true → IsRegistration (is_wide content) (number_at content sequence_place) (rows_below content shelf) (row_bytes content shelf) (row_at content shelf)

pub record AreNodesRight (content : List ℕ) : Type 0 where
  pub flags : (number : ℕ) → number < 128 → slice_index (node_bytes content number) 0 ≤ 1
  pub first : IsMf (node_at content 0)
  pub each : (number : ℕ) → number < 128 → number ≢ 0 → is_file content number ≡ true → IsPlacedFile (is_wide content) (nodes_below content number) (node_at content number)

pub record HasTries (pin : PinSlot) : Type 0 where
  pub tries : pin.tries ≤ 3
  pub unblock_tries : pin.unblock_tries ≤ 10

pub record ArePinsRight (content : List ℕ) : Type 0 where
  pub forms : (slot : ℕ) → slot < 3 → IsPinForm slot (pin_bytes content slot)
  pub each : (slot : ℕ) → slot < 3 → is_present content slot ≡ true → HasTries (pin_at content slot)

module _ (content : List ℕ) where
  abbrev IsRow : ℕ → Row → Type 0
  IsRow shelf row = IsRegistration (is_wide content) (number_at content sequence_place) (rows_below content shelf) (row_bytes content shelf) row

  pub rows_told : ((shelf : ℕ) → shelf < row_count (is_wide content) → (row_check content shelf).is_met ≡ true) → AreRowsRight content
  rows_told met =
      let told = λ (shelf : ℕ) (low : shelf < row_count (is_wide content)). row_told (is_wide content) (number_at content sequence_place) (rows_below content shelf) (row_bytes content shelf) (row_there content shelf) (met shelf low) in
      record {
        flags = λ shelf low. (told shelf low).0;
        each = λ shelf is.
            let there = row_is_there content shelf is in
            let used : (row_there content shelf).used ≡ true = ap (λ (row : Row). row.used) (sym there.1) ∙ is in
            subst (IsRow shelf) (sym there.1) ((told shelf there.0).1 used);
      }

  pub rows_taken : AreRowsRight content → (shelf : ℕ) → shelf < row_count (is_wide content) → (row_check content shelf).is_met ≡ true
  rows_taken right shelf low =
      row_taken (is_wide content) (number_at content sequence_place) (rows_below content shelf) (row_bytes content shelf) (row_there content shelf) (right.flags shelf low)
      (λ used.
      let there = row_spelled content shelf low used in
      subst (IsRow shelf) there (right.each shelf (ap (λ (row : Row). row.used) there ∙ used)))

  abbrev IsOther : ℕ → Node → Type 0
  IsOther number node = IsPlacedFile (is_wide content) (nodes_below content number) node

  pub nodes_told : ((number : ℕ) → number < 128 → (node_check content number).is_met ≡ true) → AreNodesRight content
  nodes_told met =
      record {
        flags = λ number low. flag_told (is_wide content) number (nodes_below content number) (node_bytes content number) (node_of (node_bytes content number)) (met number low);
        first =
            let mf : IsMf (node_of (node_bytes content 0)) = first_told (is_wide content) 0 (nodes_below content 0) (node_bytes content 0) (node_of (node_bytes content 0)) (met 0 (omega arith)) refl in
            subst IsMf (sym (node_spelled content 0 mf.used)) mf;
        each = λ number low other is.
            let there = node_there content number is in
            let used : (node_of (node_bytes content number)).used ≡ true = ap (λ (node : Node). node.used) (sym there) ∙ is in
            subst (IsOther number) (sym there) (node_told (is_wide content) number (nodes_below content number) (node_bytes content number) (node_of (node_bytes content number)) (met number low) other used);
      }

  pub nodes_taken : AreNodesRight content → (number : ℕ) → number < 128 → (node_check content number).is_met ≡ true
  nodes_taken right number low =
      ⊎_elim {C = (node_check content number).is_met ≡ true}
      (λ first.
      let used : is_file content 0 ≡ true = right.first.used in
      let mf : IsMf (node_of (node_bytes content 0)) = subst IsMf (node_there content 0 used) right.first in
      first_taken (is_wide content) number (nodes_below content number) (node_bytes content number) (node_of (node_bytes content number)) (right.flags number low) first
      (subst (λ (n : ℕ). IsMf (node_of (node_bytes content n))) (sym first) mf))
      (λ other.
      node_taken (is_wide content) number (nodes_below content number) (node_bytes content number) (node_of (node_bytes content number)) (right.flags number low) other
      (λ used.
      let there = node_spelled content number used in
      subst (IsOther number) there (right.each number low other (ap (λ (node : Node). node.used) there ∙ used))))
      (cases_eq number 0)

-- a slot with its key
record HasKey (key : ℕ) (bytes : List ℕ) : Type 0 where
  own : slice_index bytes 0 ≡ key
  flag : slice_index bytes 1 ≤ 1
  tries : slice_index bytes 2 ≤ 3
  unblock_tries : slice_index bytes 3 ≤ 10

module _ (key : ℕ) (bytes : List ℕ) where
  abbrev own : Bool
  own = slice_index bytes 0 == key

  abbrev flag : Bool
  flag = is_flag (slice_index bytes 1)

  abbrev tries : Bool
  tries = nat_le (slice_index bytes 2) 3

  abbrev unblock_tries : Bool
  unblock_tries = nat_le (slice_index bytes 3) 10

  key_told : (own && flag && tries && unblock_tries) ≡ true → HasKey key bytes
  key_told is =
      let last = and_parts (own && flag && tries) unblock_tries is in
      let third = and_parts (own && flag) tries last.0 in
      let second = and_parts own flag third.0 in
      record {
        own = eqb-true (slice_index bytes 0) key second.0;
        flag = leb-true (slice_index bytes 1) 1 second.1;
        tries = leb-true (slice_index bytes 2) 3 third.1;
        unblock_tries = leb-true (slice_index bytes 3) 10 last.1;
      }

  key_taken : HasKey key bytes → (own && flag && tries && unblock_tries) ≡ true
  key_taken has =
      and_from (own && flag && tries) unblock_tries
      (and_from (own && flag) tries (and_from own flag (eq-eqb (slice_index bytes 0) key has.own) (le-leb (slice_index bytes 1) 1 has.flag)) (le-leb (slice_index bytes 2) 3 has.tries))
      (le-leb (slice_index bytes 3) 10 has.unblock_tries)

  pin_told : is_pin key bytes ≡ true → (slice_index bytes 0 ≡ 0) ⊎ HasKey key bytes
  unfolding pin_of
  pin_told is = ⊎_elim (λ none. inl (eqb-true (slice_index bytes 0) 0 none)) (λ all. inr (key_told all)) (or_cases (slice_index bytes 0 == 0) (own && flag && tries && unblock_tries) is)

  pin_taken : (slice_index bytes 0 ≡ 0) ⊎ HasKey key bytes → is_pin key bytes ≡ true
  unfolding pin_of
  pin_taken cases =
      ⊎_elim {C = (slice_index bytes 0 == 0 || (own && flag && tries && unblock_tries)) ≡ true} (λ none. or_left (slice_index bytes 0 == 0) (own && flag && tries && unblock_tries) (eq-eqb (slice_index bytes 0) 0 none))
      (λ has. or_right (slice_index bytes 0 == 0) (own && flag && tries && unblock_tries) (key_taken has)) cases

  pub key_of_pin : (pin_of bytes).key ≡ slice_index bytes 0
  unfolding pin_of
  key_of_pin = refl

  tries_of_pin : (pin_of bytes).tries ≡ slice_index bytes 2
  unfolding pin_of
  tries_of_pin = refl

  unblock_tries_of_pin : (pin_of bytes).unblock_tries ≡ slice_index bytes 3
  unfolding pin_of
  unblock_tries_of_pin = refl

module _ (content : List ℕ) where
  -- a slot that has a PIN has the key of its bytes
  pub pin_has_key : (slot : ℕ) → is_present content slot ≡ true → slice_index (pin_bytes content slot) 0 ≢ 0
  pin_has_key slot is none =
      let there = pin_present content slot is in
      let key : (pin_at content slot).key ≡ 0 = ap (λ (pin : PinSlot). pin.key) there ∙ key_of_pin 0 (pin_bytes content slot) ∙ none in
      let absent = eq-eqb (pin_at content slot).key 0 key in
      false≢true (sym (not_from_true ((pin_at content slot).key == 0) absent) ∙ is)

  pin_with_key : (slot : ℕ) → slice_index (pin_bytes content slot) 0 ≢ 0 → (is_present content slot ≡ true) × (pin_at content slot ≡ pin_of (pin_bytes content slot))
  pin_with_key slot some =
      let key : ((pin_of (pin_bytes content slot)).key == 0) ≡ false = ne_eqb (pin_of (pin_bytes content slot)).key 0 (λ none. some (sym (key_of_pin 0 (pin_bytes content slot)) ∙ none)) in
      let there = pin_spelled content slot key in
      (not_from_false ((pin_at content slot).key == 0) (ap (λ (pin : PinSlot). pin.key == 0) there ∙ key), there)

  pub pins_told : ((slot : ℕ) → slot < 3 → (pin_check content slot).is_met ≡ true) → ArePinsRight content
  pins_told met =
      let told = λ (slot : ℕ) (low : slot < 3). pin_told (key_of_slot slot) (pin_bytes content slot) (met slot low) in
      record {
        forms = λ slot low. record {
          key = ⊎_elim inl (λ has. inr has.own) (told slot low);
          enabled = λ some. ⊎_elim {C = slice_index (pin_bytes content slot) 1 ≤ 1} (λ none. absurd (some none)) (λ has. has.flag) (told slot low);
        };
        each = λ slot low is.
            subst HasTries (sym (pin_present content slot is))
            (⊎_elim {C = HasTries (pin_of (pin_bytes content slot))} (λ none. absurd (pin_has_key slot is none))
            (λ has. record { tries = omega (arith, has.tries, tries_of_pin 0 (pin_bytes content slot)); unblock_tries = omega (arith, has.unblock_tries, unblock_tries_of_pin 0 (pin_bytes content slot)) })
            (told slot low));
      }

  pub pins_taken : ArePinsRight content → (slot : ℕ) → slot < 3 → (pin_check content slot).is_met ≡ true
  pins_taken right slot low =
      pin_taken (key_of_slot slot) (pin_bytes content slot)
      (⊎_elim {C = (slice_index (pin_bytes content slot) 0 ≡ 0) ⊎ HasKey (key_of_slot slot) (pin_bytes content slot)} inl
      (λ some.
      let there = pin_with_key slot some in
      let has : HasTries (pin_of (pin_bytes content slot)) = subst HasTries there.1 (right.each slot low there.0) in
      inr (record {
        own = ⊎_elim {C = slice_index (pin_bytes content slot) 0 ≡ key_of_slot slot} (λ none. absurd (some none)) (λ (is : slice_index (pin_bytes content slot) 0 ≡ key_of_slot slot). is) (right.forms slot low).key;
        flag = (right.forms slot low).enabled some;
        tries = omega (arith, has.tries, tries_of_pin 0 (pin_bytes content slot));
        unblock_tries = omega (arith, has.unblock_tries, unblock_tries_of_pin 0 (pin_bytes content slot));
      }))
      (cases_eq (slice_index (pin_bytes content slot) 0) 0))
