-- The PIN with a key among the slots.
use Rattle.std.proofs.Common.{get_or, ◌≡◌, ℕ, ◌<◌, ◌≤◌, Bool, true, false, List, [], length, Some, None, refl, ap, ◌∙◌, subst, arith, ◌==◌, ◌&&◌, not, find, slice_get, option_map, nat_lt}
use Rattle.std.specs.List.{position_from, position_or_len}
use Rattle.std.proofs.lemmas.Option.{slice_get_past, slice_get-get_or, cond_some}
use Rattle.std.proofs.lemmas.Iterator.Adapters.{position_from-zero}
use Rattle.std.proofs.lemmas.List.Folds.{find_at}
use Rattle.std.proofs.lemmas.Bool.{eqb-true}
use Rattle.std.proofs.lemmas.Bool.Decides.{nat_tests}
use Rattle.list_laws.proofs.FindLemmas.{find-map, find-filter, find_Some}
use Rattle.list_laws.proofs.IfSomeLemmas.{none_chosen}
use Rattle.card_state.specs.declared.entries.PinSlot.{PinSlot}
use Rattle.card_state.specs.declared.entries.Loaded.{Loaded}
use Rattle.card_state.specs.States.{pins_of, pin_state, present_pins}
use Rattle.file_model.specs.Pins.{pin_found}

abbrev pub is_key : ℕ → PinSlot → Bool
is_key key pin = not (pin.key == 0) && pin.key == key

-- what stands for a slot where there is none
abbrev pub no_slot : PinSlot
no_slot = record { key = 0; enabled = false; tries = 0; unblock_tries = 0; value = record { 0 = [] }; unblock = record { 0 = [] } }

-- in the table of PINs as among the slots
pub pin_in_slots : (table : Loaded) (key : ℕ) → pin_found (pins_of table) key ≡ option_map pin_state (find (is_key key) table.pins)
unfolding pin_found pins_of
pin_in_slots table key =
    find-map (λ pin. pin.key == key) pin_state (present_pins table.pins)
    ∙ ap (option_map pin_state) (find-filter (λ (pin : PinSlot). pin.key == key) (λ (pin : PinSlot). not (pin.key == 0)) table.pins)

-- the first place of those that pass
pub found_at : {X : Type 0} (p : X → Bool) (xs : List X) (i : ℕ) (d : X) → position_from p 0 xs ≡ Some i → find p xs ≡ Some (get_or xs i d)
found_at p xs i d is =
    let at = cond_some (nat_lt (position_or_len p xs) (length xs)) (position_or_len p xs) i (position_from-zero p xs ∙ is) in
    let low : position_or_len p xs < length xs = grind (arith, nat_tests, at.0) in
    find_at p xs ∙ ap (slice_get xs) at.1 ∙ slice_get-get_or xs i d (subst (λ (n : ℕ). n < length xs) at.1 low)

pub found_nowhere : {X : Type 0} (p : X → Bool) (xs : List X) → position_from p 0 xs ≡ None → find p xs ≡ None
found_nowhere p xs is =
    let at = none_chosen (nat_lt (position_or_len p xs) (length xs)) (position_or_len p xs) (position_from-zero p xs ∙ is) in
    let past : length xs ≤ position_or_len p xs = grind (arith, nat_tests, at) in
    find_at p xs ∙ slice_get_past xs (position_or_len p xs) past

pub place_low : {X : Type 0} (p : X → Bool) (xs : List X) (i : ℕ) → position_from p 0 xs ≡ Some i → i < length xs
place_low p xs i is =
    let at = cond_some (nat_lt (position_or_len p xs) (length xs)) (position_or_len p xs) i (position_from-zero p xs ∙ is) in
    let low : position_or_len p xs < length xs = grind (arith, nat_tests, at.0) in
    subst (λ (n : ℕ). n < length xs) at.1 low

-- one that is found has a key
key_of : (none same : Bool) → (not none && same) ≡ true → none ≡ false
key_of false same is = refl
key_of true same is = absurd (subst (λ (b : Bool). is_false b) is cc)
  where
    is_false : Bool → Type 0
    is_false true = ⊥
    is_false false = Unit {0}

pub has_key : (key : ℕ) (pins : List PinSlot) (pin : PinSlot) → find (is_key key) pins ≡ Some pin → (pin.key == 0) ≡ false
has_key key pins pin is = key_of (pin.key == 0) (pin.key == key) (find_Some (is_key key) pins pin is).1

-- and it is the one that was looked for
key_same : (none same : Bool) → (not none && same) ≡ true → same ≡ true
key_same false same is = is
key_same true same is = absurd (subst (λ (b : Bool). is_false b) is cc)
  where
    is_false : Bool → Type 0
    is_false true = ⊥
    is_false false = Unit {0}

pub its_key : (key : ℕ) (pins : List PinSlot) (pin : PinSlot) → find (is_key key) pins ≡ Some pin → pin.key ≡ key
its_key key pins pin is = eqb-true pin.key key (key_same (pin.key == 0) (pin.key == key) (find_Some (is_key key) pins pin is).1)
