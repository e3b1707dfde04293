-- The PINs of a state by their slots: what the checks tell of them is what a sound state says.
use Rattle.std.proofs.Common.{◌≡◌, ℕ, ◌<◌, true, List, [], ◌∷◌, sym, ◌∙◌, ap, subst, ⊎_elim, arith, All, AllPairs, Contains, slice_index}
use Rattle.card_state.specs.declared.entries.PinSlot.{PinSlot}
use Rattle.card_state.specs.Decoding.{pin_bytes, pin_at}
use Rattle.card_state.specs.Soundness.{IsSoundPin, slot_of_key}
use Rattle.card_state.proofs.KeyOfSlotLemmas.{key_among, slot_back}
use Rattle.card_state.specs.Checks.{key_of_slot}
use Rattle.card_state.specs.Forms.{IsPinForm}
use Rattle.card_state.proofs.FilterRangeLemmas.{all_kept, kept_all, pairs_kept}
use Rattle.card_state.proofs.StateOfLemmas.{is_present, pin_there, pin_present, pins}
use Rattle.card_state.proofs.AreNodesRightLemmas.{ArePinsRight, key_of_pin, pin_has_key}

module _ (content : List ℕ) where
  pub record ArePinsSound : Type 0 where
    pub each : All IsSoundPin (pins content)
    pub ordered : AllPairs (λ a b. slot_of_key a.key < slot_of_key b.key) (pins content)

  -- a PIN has the key of its slot
  pub own_key : ArePinsRight content → (slot : ℕ) → slot < 3 → is_present content slot ≡ true → (pin_at content slot).key ≡ key_of_slot slot
  own_key right slot low is =
      ap (λ (pin : PinSlot). pin.key) (pin_present content slot is) ∙ key_of_pin 0 (pin_bytes content slot)
      ∙ ⊎_elim {C = slice_index (pin_bytes content slot) 0 ≡ key_of_slot slot} (λ none. absurd (pin_has_key content slot is none))
      (λ (own : slice_index (pin_bytes content slot) 0 ≡ key_of_slot slot). own) (right.forms slot low).key

  pub pins_sound : ArePinsRight content → ArePinsSound
  unfolding pins
  pins_sound right =
      let key : (slot : ℕ) → slot < 3 → is_present content slot ≡ true → (pin_at content slot).key ≡ key_of_slot slot = own_key right in
      let place : (slot : ℕ) → slot < 3 → is_present content slot ≡ true → slot_of_key (pin_at content slot).key ≡ slot =
      λ slot low is. ap slot_of_key (key slot low is) ∙ slot_back slot low in
      record {
        each =
            all_kept (pin_there content) (is_present content) IsSoundPin 3
            (λ slot low is. record {
              key = subst (λ (n : ℕ). Contains (0x01 ∷ 0x81 ∷ 0x0A ∷ []) n) (sym (key slot low is)) (key_among slot low);
              tries = (right.each slot low is).tries;
              unblock_tries = (right.each slot low is).unblock_tries;
            });
        ordered =
            pairs_kept (pin_there content) (is_present content) (λ a b. slot_of_key a.key < slot_of_key b.key) 3
            (λ a b less high first second. omega (arith, place a (omega arith) first, place b high second));
      }

  pub pins_right : ArePinsSound → ((slot : ℕ) → slot < 3 → IsPinForm slot (pin_bytes content slot)) → ArePinsRight content
  unfolding pins
  pins_right sound forms =
      record {
        forms = forms;
        each = λ slot low is.
            let pin = kept_all (pin_there content) (is_present content) IsSoundPin 3 sound.each slot low is in
            record { tries = pin.tries; unblock_tries = pin.unblock_tries };
      }
