-- What a contract sees of the slots of a section's PINs.
use Rattle.std.specs.Prelude.{◌≡◌, ◌⊎◌, ℕ, ◌*◌, ◌<◌, List, map, length, slice_index_or}
use Rattle.card_state.specs.declared.sizes.TheConstants.{PIN_COUNT, PIN_WIDTH, TRIES, UNBLOCK_TRIES}
use Rattle.card_state.specs.declared.entries.PinSlot.{PinSlot}
use Rattle.card_state.specs.Blank.{absent_pin}
use Rattle.card_state.specs.Persistent.{Pin}
use Rattle.card_state.specs.States.{pin_state, present_pins}
use Rattle.card_state.specs.Checks.{key_of_slot}
use Rattle.card_state.specs.Decoding.{bytes_at}
use Rattle.layout_entries.specs.Spelling.{pin_spelled}
use Rattle.layout_section.specs.declared.pins.Pins.TheInside.{Inside}

-- a new PIN in the slot of its key
pub record IsNewPin (key : ℕ) (slot : PinSlot) : Type 0 where
  pub own : slot.key ≡ key
  pub tries : slot.tries ≡ TRIES
  pub unblock_tries : slot.unblock_tries ≡ UNBLOCK_TRIES
  pub value_long : length slot.value.0 ≡ 8
  pub unblock_long : length slot.unblock.0 ≡ 8

-- each slot is empty or has a new PIN of its own key
abbrev pub AreSlotsOf : List PinSlot → Type 0
AreSlotsOf slots =
    (k : ℕ) → k < PIN_COUNT → (slice_index_or slots k absent_pin ≡ absent_pin) ⊎ IsNewPin (key_of_slot k) (slice_index_or slots k absent_pin)

-- the slots that a section keeps stand for PINs
abbrev pub AreSlots : Inside → Type 0
AreSlots inside = AreSlotsOf inside.slots

-- the PINs of a section
abbrev pub pins_of : Inside → List Pin
pins_of inside = map pin_state (present_pins inside.slots)

-- the slots of these PINs, one after the other
pub record SpellsPins (pins : List Pin) (bytes : List ℕ) : Type 0 where
  pub slots : List PinSlot
  pub long : length slots ≡ PIN_COUNT
  pub are : AreSlotsOf slots
  pub is : map pin_state (present_pins slots) ≡ pins
  pub spelled_at : (k : ℕ) → k < PIN_COUNT → bytes_at bytes (PIN_WIDTH * k) PIN_WIDTH ≡ pin_spelled (slice_index_or slots k absent_pin)
