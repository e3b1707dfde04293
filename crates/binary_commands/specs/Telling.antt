-- The parts of what SELECT and STATUS answer (ETSI TS 102 221, 11.1.1.3).
use Rattle.std.specs.Prelude.{ℕ, ◌+◌, ◌/◌, ◌==◌, if◌then◌else◌, List, [], ◌∷◌, ◌++◌, map}
use Rattle.std.specs.List.{flat_map}
use Rattle.std.specs.Int.{to_be_bytes, w16}
use Rattle.card_state.specs.declared.entries.PinSlot.{PinSlot}
use Rattle.card_state.specs.Persistent.{Pin}
use Rattle.card_state.specs.States.{pin_state, present_pins}
use Rattle.access_rules.specs.Objects.{object}
use Rattle.file_model.specs.declared.descriptors.Descriptor.{Descriptor}
use Rattle.file_model.specs.Fcp.{kind_bytes, rule_object}
use Rattle.binary_commands.specs.declared.telling.PinStatus.{PinStatus}

-- what a DF and an EF tell alike
abbrev pub file_objects : Descriptor → List ℕ
file_objects file = object 0x82 (kind_bytes file) ++ object 0x83 (to_be_bytes w16 file.id.0) ++ object 0x8A (file.life ∷ []) ++ rule_object file.rule

-- the key of each PIN
abbrev pub key_objects : List Pin → List ℕ
key_objects pins = flat_map (λ pin. object 0x83 (pin.key ∷ [])) pins

-- the PINs that are there in some slots
abbrev pub pins_in : List PinSlot → List Pin
pins_in slots = map pin_state (present_pins slots)

-- what was told of the PINs before, and of the one in this slot, if it is there
abbrev pub pin_told : PinStatus → PinSlot → PinStatus
pin_told told pin =
    if pin.key == 0
    then told
    else record { enabled = told.enabled + (if pin.enabled then told.weight else 0); weight = told.weight / 2; keys = told.keys ++ object 0x83 (pin.key ∷ []) }
