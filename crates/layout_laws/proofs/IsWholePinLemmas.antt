-- A sound state is sound still with another PIN in a slot.
use Rattle.std.proofs.Common.{◌≡◌, ◌⊎◌, ℕ, ◌<◌, ◌==◌, Bool, true, false, if◌then◌else◌, List, [], ◌∷◌, Option, Some, None, All, AllPairs, Contains, refl, sym, ◌∙◌, ap, subst, ⊎_elim, arith}
use Rattle.std.proofs.lemmas.Bool.{eqb-false}
use Rattle.std.proofs.lemmas.List.Elements.{All-contains}
use Rattle.card_state.specs.declared.entries.PinSlot.{PinSlot}
use Rattle.card_state.specs.Checks.{key_of_slot}
use Rattle.card_state.specs.States.{pin_state}
use Rattle.card_state.specs.Persistent.{Pin, Persistent}
use Rattle.card_state.specs.Soundness.{IsSoundPin, slot_of_key, IsSound}
use Rattle.card_state.specs.Used.{pin_if}
use Rattle.card_state.specs.Changing.{placed, with_pin_in}
use Rattle.card_state.proofs.KeyOfSlotLemmas.{key_among, slot_back}
use Rattle.card_state.proofs.PlacedLemmas.{all_others, all_placed, pairs_without, pairs_placed}
use Rattle.layout_laws.specs.Writing.{IsWholePin}

-- a PIN in its slot, or none there
pub pin_fits : (state : Persistent) → IsSound state → (slot : ℕ) (pin : PinSlot) → IsWholePin slot pin → IsSound (with_pin_in state slot (pin_if pin))
pin_fits state sound slot pin new = by_test (pin.key == 0) refl where
  with_pins : (pins : List Pin) → All IsSoundPin pins → AllPairs (λ a b. slot_of_key a.key < slot_of_key b.key) pins → IsSound (record state { pins = pins })
  with_pins pins each pairs = record {
    files = sound.files;
    mf_there = sound.mf_there;
    distinct_files = sound.distinct_files;
    pins = each;
    ordered_pins = pairs;
    rows = sound.rows;
    distinct_rows = sound.distinct_rows;
    texts = sound.texts;
  }

  there : (p : Pin) → Contains state.pins p → IsSoundPin p
  there p is = All-contains IsSoundPin state.pins p sound.pins is

  by_test : (b : Bool) → (pin.key == 0) ≡ b → (let shown : Option Pin = if b then None else Some (pin_state pin) in IsSound (with_pin_in state slot shown))
  by_test true absent =
      with_pins (placed (λ p. slot_of_key p.key) slot None state.pins) (all_others (λ p. slot_of_key p.key) slot state.pins IsSoundPin (λ p other is. there p is))
      (pairs_without (λ p. slot_of_key p.key) slot state.pins (λ a b. slot_of_key a.key < slot_of_key b.key) (λ a b less. less) sound.ordered_pins)
  by_test false present =
      let own : pin.key ≡ key_of_slot slot = ⊎_elim {C = pin.key ≡ key_of_slot slot} (λ none. absurd (eqb-false pin.key 0 present none)) (λ is. is) new.key in
      let slot_is : slot_of_key pin.key ≡ slot = ap slot_of_key own ∙ slot_back slot new.low in
      with_pins (placed (λ p. slot_of_key p.key) slot (Some (pin_state pin)) state.pins)
      (all_placed (λ p. slot_of_key p.key) slot state.pins IsSoundPin (pin_state pin) (λ p other is. there p is)
      (record { key = subst (Contains (0x01 ∷ 0x81 ∷ 0x0A ∷ [])) (sym own) (key_among slot new.low); tries = new.tries; unblock_tries = new.unblock_tries }))
      (pairs_placed (λ p. slot_of_key p.key) slot state.pins (λ a b. slot_of_key a.key < slot_of_key b.key) (λ a b less. less) sound.ordered_pins (pin_state pin) (λ p is low. omega arith) (λ p is high. omega arith))
