-- What a card refuses commands for, worked out from their bytes: most of them have two causes, of which the first in the written order counts.
use Rattle.std.proofs.Common.{◌≡◌, ℕ, true, false, List, [], ◌∷◌, ◌++◌, map, replicate, Option, Some, None, refl, option_map}
use Rattle.apdu_form.specs.Model.{command_in, fields_in}
use Rattle.card_state.specs.Persistent.{Pin}
use Rattle.card_state.specs.Soundness.{mf}
use Rattle.file_model.specs.Access.{keys_seen}
use Rattle.file_model.specs.Files.{descriptor_in, descriptors_in, file_found}
use Rattle.file_model.specs.Pins.{pin_found}
use Rattle.file_model.specs.Selections.{chosen, chosen_by_identifier}
use Rattle.file_model.specs.declared.selections.TheConstants.Selection.{AT_START}
use Rattle.toolkit_model.specs.Commands.{woken_boxes}
use Rattle.toolkit_model.specs.Orderly.{asks}
use Rattle.card_model.specs.States.{CardState, nothing_verified, woken}
use Rattle.card_laws.specs.CardRefusals.{first_of, refusals_in_order}
use Rattle.card_laws.proofs.worked.GuessCounts.{pin_1}

-- the status with which each of these commands is refused, if it is
abbrev refused_with : CardState → List (List ℕ) → List (Option ℕ)
refused_with card commands = map (λ bytes. option_map (λ word. word.0) (first_of (refusals_in_order card bytes))) commands

abbrev adm_1 : Pin
adm_1 = record { key = 0x0A; is_enabled = true; tries = 3; unblock_tries = 10; value = replicate 8 0x38; unblock = replicate 8 0x30 }

-- the MF alone, the PIN so, and the administrator's
abbrev card_with : Pin → CardState
card_with pin = woken (record { is_wide = true; files = mf ∷ []; pins = pin ∷ adm_1 ∷ []; rows = []; next_sequence = 0 }) []

abbrev first_card : CardState
first_card = card_with pin_1

-- ---- the form, the class, the channel and the instruction

no_command : refused_with first_card (
    (0x00 ∷ 0xA4 ∷ 0x00 ∷ [])
    ∷ (0xF1 ∷ 0xFF ∷ 0x00 ∷ 0x00 ∷ [])
    ∷ (0x07 ∷ 0xFF ∷ 0x00 ∷ 0x00 ∷ [])
    ∷ (0x03 ∷ 0xFF ∷ 0x00 ∷ 0x00 ∷ [])
    ∷ (0xF0 ∷ 0xFF ∷ 0x00 ∷ 0x00 ∷ [])
    ∷ (0x80 ∷ 0xA4 ∷ 0x01 ∷ 0x00 ∷ [])
    ∷ [])
    ≡ Some 0x6700 ∷ Some 0x6E00 ∷ Some 0x6882 ∷ Some 0x6881 ∷ Some 0x6D00 ∷ Some 0x6E00 ∷ []
unfolding command_in fields_in woken woken_boxes
no_command = refl

-- P1 and P2, the length, and then the file; the last is refused for nothing
select : refused_with first_card (
    (0x00 ∷ 0xA4 ∷ 0x01 ∷ 0x0C ∷ [])
    ∷ (0x00 ∷ 0xA4 ∷ 0x00 ∷ 0x0C ∷ [])
    ∷ (0x00 ∷ 0xA4 ∷ 0x00 ∷ 0x0C ∷ 0x02 ∷ 0x2F ∷ 0xE2 ∷ [])
    ∷ (0x00 ∷ 0xA4 ∷ 0x00 ∷ 0x0C ∷ 0x02 ∷ 0x3F ∷ 0x00 ∷ [])
    ∷ [])
    ≡ Some 0x6A86 ∷ Some 0x6700 ∷ Some 0x6A82 ∷ None ∷ []
unfolding command_in fields_in woken woken_boxes chosen chosen_by_identifier descriptor_in descriptors_in file_found
select = refl

-- ---- PINs

-- VERIFY PIN: P1, the length, a key that is none, one that isn't there; how many tries are left, a wrong value, and the right one
verify_pin : refused_with first_card (
    (0x00 ∷ 0x20 ∷ 0x01 ∷ 0x02 ∷ 0x01 ∷ 0x31 ∷ [])
    ∷ (0x00 ∷ 0x20 ∷ 0x00 ∷ 0x02 ∷ 0x01 ∷ 0x31 ∷ [])
    ∷ (0x00 ∷ 0x20 ∷ 0x00 ∷ 0x02 ∷ [])
    ∷ (0x00 ∷ 0x20 ∷ 0x00 ∷ 0x81 ∷ [])
    ∷ (0x00 ∷ 0x20 ∷ 0x00 ∷ 0x01 ∷ [])
    ∷ (0x00 ∷ 0x20 ∷ 0x00 ∷ 0x01 ∷ 0x08 ∷ replicate 8 0x33)
    ∷ (0x00 ∷ 0x20 ∷ 0x00 ∷ 0x01 ∷ 0x08 ∷ replicate 8 0x31)
    ∷ [])
    ≡ Some 0x6A86 ∷ Some 0x6700 ∷ Some 0x6A88 ∷ Some 0x6A88 ∷ Some 0x63C3 ∷ Some 0x63C2 ∷ None ∷ []
unfolding command_in fields_in woken woken_boxes pin_found
verify_pin = refl

-- of a PIN that is disabled only a value is refused for it, and one that is blocked is refused for that first
verify_of_others : refused_with (card_with (record pin_1 { is_enabled = false })) ((0x00 ∷ 0x20 ∷ 0x00 ∷ 0x01 ∷ []) ∷ (0x00 ∷ 0x20 ∷ 0x00 ∷ 0x01 ∷ 0x08 ∷ replicate 8 0x31) ∷ [])
    ++ refused_with (card_with (record pin_1 { is_enabled = false; tries = 0 })) ((0x00 ∷ 0x20 ∷ 0x00 ∷ 0x01 ∷ []) ∷ (0x00 ∷ 0x20 ∷ 0x00 ∷ 0x01 ∷ 0x08 ∷ replicate 8 0x31) ∷ [])
    ≡ Some 0x63C3 ∷ Some 0x6984 ∷ Some 0x6983 ∷ Some 0x6983 ∷ []
unfolding command_in fields_in woken woken_boxes pin_found
verify_of_others = refl

-- CHANGE PIN, DISABLE PIN, ENABLE PIN and UNBLOCK PIN, some of the administrator's key, which has no such command
other_pin_commands : refused_with first_card (
    (0x00 ∷ 0x24 ∷ 0x00 ∷ 0x01 ∷ 0x08 ∷ replicate 8 0x31)
    ∷ (0x00 ∷ 0x24 ∷ 0x00 ∷ 0x0A ∷ 0x10 ∷ replicate 16 0x33)
    ∷ (0x00 ∷ 0x26 ∷ 0x00 ∷ 0x0A ∷ 0x08 ∷ replicate 8 0x38)
    ∷ (0x00 ∷ 0x26 ∷ 0x00 ∷ 0x01 ∷ 0x08 ∷ replicate 8 0x31)
    ∷ (0x00 ∷ 0x28 ∷ 0x00 ∷ 0x01 ∷ 0x08 ∷ replicate 8 0x33)
    ∷ (0x00 ∷ 0x2C ∷ 0x00 ∷ 0x01 ∷ [])
    ∷ (0x00 ∷ 0x2C ∷ 0x00 ∷ 0x01 ∷ 0x10 ∷ replicate 16 0x31)
    ∷ [])
    ≡ Some 0x6700 ∷ Some 0x63C2 ∷ Some 0x6A88 ∷ None ∷ Some 0x6985 ∷ Some 0x63CA ∷ Some 0x63C9 ∷ []
unfolding command_in fields_in woken woken_boxes pin_found
other_pin_commands = refl

-- ---- channels

manage_channel : refused_with first_card (
    (0x00 ∷ 0x70 ∷ 0x80 ∷ 0x00 ∷ 0x01 ∷ 0xAA ∷ [])
    ∷ (0x00 ∷ 0x70 ∷ 0x80 ∷ 0x01 ∷ 0x01 ∷ 0xAA ∷ [])
    ∷ (0x00 ∷ 0x70 ∷ 0x00 ∷ 0x00 ∷ 0x02 ∷ [])
    ∷ (0x00 ∷ 0x70 ∷ 0x80 ∷ 0x01 ∷ [])
    ∷ (0x00 ∷ 0x70 ∷ 0x00 ∷ 0x00 ∷ 0x01 ∷ [])
    ∷ [])
    ≡ Some 0x6A86 ∷ Some 0x6700 ∷ Some 0x6700 ∷ Some 0x6985 ∷ None ∷ []
unfolding command_in fields_in woken woken_boxes
manage_channel = refl

-- ---- the toolkit

toolkit_commands : refused_with first_card (
    (0x80 ∷ 0x10 ∷ 0x00 ∷ 0x01 ∷ [])
    ∷ (0x80 ∷ 0x10 ∷ 0x00 ∷ 0x00 ∷ [])
    ∷ (0x80 ∷ 0x12 ∷ 0x00 ∷ 0x00 ∷ [])
    ∷ (0x80 ∷ 0x12 ∷ 0x00 ∷ 0x00 ∷ 0x10 ∷ [])
    ∷ (0x80 ∷ 0x14 ∷ 0x00 ∷ 0x00 ∷ 0x01 ∷ 0x00 ∷ [])
    ∷ (0x81 ∷ 0xC2 ∷ 0x00 ∷ 0x00 ∷ [])
    ∷ [])
    ≡ Some 0x6A86 ∷ Some 0x6700 ∷ Some 0x6700 ∷ Some 0x6985 ∷ Some 0x6985 ∷ Some 0x6881 ∷ []
unfolding command_in fields_in woken woken_boxes
toolkit_commands = refl

-- on another channel than the basic one they are refused for that, before their P1 and P2
abbrev card_of_two_channels : CardState
card_of_two_channels = record first_card { channels = Some AT_START ∷ Some AT_START ∷ None ∷ None ∷ [] }

other_channel : refused_with card_of_two_channels ((0x81 ∷ 0x12 ∷ 0x01 ∷ 0x00 ∷ []) ∷ (0x80 ∷ 0x12 ∷ 0x01 ∷ 0x00 ∷ []) ∷ (0x01 ∷ 0x70 ∷ 0x80 ∷ 0x01 ∷ []) ∷ (0x01 ∷ 0x12 ∷ 0x00 ∷ 0x00 ∷ []) ∷ [])
    ≡ Some 0x6881 ∷ Some 0x6A86 ∷ None ∷ Some 0x6E00 ∷ []
unfolding command_in fields_in woken woken_boxes
other_channel = refl

-- INSTALL and DELETE: without the administrator's key, and with it
abbrev verified_card : CardState
verified_card = record first_card { verified = record nothing_verified { adm1 = true } }

install_and_delete : refused_with first_card ((0xF0 ∷ 0xE6 ∷ 0x00 ∷ 0x03 ∷ []) ∷ (0xF0 ∷ 0xE6 ∷ 0x01 ∷ 0x03 ∷ []) ∷ (0xF0 ∷ 0xE6 ∷ 0x01 ∷ 0x03 ∷ 0x01 ∷ 0xFF ∷ []) ∷ (0xF0 ∷ 0xE4 ∷ 0x00 ∷ 0x03 ∷ []) ∷ [])
    ++ refused_with verified_card ((0xF0 ∷ 0xE6 ∷ 0x01 ∷ 0x03 ∷ 0x01 ∷ 0xFF ∷ []) ∷ (0xF0 ∷ 0xE6 ∷ 0x01 ∷ 0x03 ∷ 0x03 ∷ 0x01 ∷ 0x40 ∷ 0x00 ∷ []) ∷ (0xF0 ∷ 0xE4 ∷ 0x00 ∷ 0x03 ∷ []) ∷ [])
    ≡ Some 0x6A86 ∷ Some 0x6700 ∷ Some 0x6982 ∷ Some 0x6982 ∷ Some 0x6A80 ∷ Some 0x6A88 ∷ Some 0x6A88 ∷ []
unfolding command_in fields_in woken woken_boxes keys_seen asks
install_and_delete = refl
