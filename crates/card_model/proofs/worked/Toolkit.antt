-- A card that runs applets and a handset, worked out from the bytes of the commands: what the card answers to each, one after the
-- other.
use Rattle.std.proofs.Common.{◌≡◌, ℕ, List, [], ◌∷◌, map, replicate, Option, Some, true, refl, ◌+◌, ◌%◌}
use Rattle.std.specs.List.{range_with_len}
use Rattle.apdu_form.specs.Model.{command_in, fields_in}
use Rattle.card_state.specs.Persistent.{Pin, Registration, Persistent}
use Rattle.card_state.specs.Soundness.{mf}
use Rattle.access_rules.specs.declared.rules.Verified.{Verified}
use Rattle.file_model.specs.Access.{keys_seen}
use Rattle.file_model.specs.Chains.{refused_if, given, and_given}
use Rattle.file_model.specs.Files.{descriptor_in, descriptors_in, file_found}
use Rattle.file_model.specs.Pins.{pin_found, presented, pin_presented, pin_verified}
use Rattle.file_model.specs.Selecting.{telling, status_told}
use Rattle.file_model.specs.Channels.{channel_tried}
use Rattle.file_model.specs.Commands.{file_outcome}
use Rattle.comprehension_tlv.specs.Reading as Reading
use Rattle.comprehension_tlv.specs.Writing.{tagged}
use Rattle.toolkit_commands.specs.Envelopes.{value_in, envelope_in, envelope_of}
use Rattle.toolkit_commands.specs.Responses.{response_of}
use Rattle.terminal_profile.specs.Profiles.{allowed, allowed_event, consulted}
use Rattle.applet_trait.specs.Minds.{AppletState, fresh}
use Rattle.applet_trait.specs.Tables.{address_digits, row_from}
use Rattle.applet_trait.specs.Turns.{act}
use Rattle.toolkit_model.specs.Commands.{profiled, polled, triggered, enveloped, fetched, answered, responded, installed, delete_carried, woken_boxes}
use Rattle.toolkit_model.specs.Driving.{told_one, given_one, caught_up, wanted, with_next_command, driven}
use Rattle.toolkit_model.specs.Order.{trigger_order}
use Rattle.toolkit_model.specs.Orderly.{asks}
use Rattle.toolkit_model.specs.Running.{run_on, run_of_row}
use Rattle.card_model.specs.Answers.{carried_out, tried, answer_of, passed_of}
use Rattle.card_model.specs.Instructions.{instruction_tried}
use Rattle.card_model.specs.Runs.{boxes_left}
use Rattle.card_model.specs.States.{CardState, nothing_verified, restarted, woken}
use Rattle.card_model.specs.Toolkit.{profile_taken, command_fetched, response_taken, envelope_taken, applet_installed, applet_deleted, toolkit_outcome}
use Rattle.card_model.proofs.worked.Commands.{every, replies}

-- ---- the card

-- an applet of each kind on its shelf, the kinds going round
abbrev boxes : List (Option AppletState)
boxes = map (λ shelf. Some (fresh (shelf % 7 + 1) [])) (range_with_len 0 32)

abbrev row : ℕ → ℕ → ℕ → List ℕ → List ℕ → List ℕ → Registration
row shelf priority sequence codes text kept =
    record { shelf = shelf; kind = shelf % 7 + 1; priority = priority; sequence = sequence; codes = codes; text = text; kept = kept }

abbrev adm1_pin : Pin
adm1_pin = record { key = 0x0A; is_enabled = true; tries = 3; unblock_tries = 10; value = replicate 8 0x38; unblock = replicate 8 0x00 }

-- a wide card with the MF alone, whose next sequence number is above those of the rows
abbrev held_with : List Registration → Persistent
held_with rows = record { is_wide = true; files = mf ∷ []; pins = adm1_pin ∷ []; rows = rows; next_sequence = 9 }

abbrev card_with : List Registration → CardState
card_with rows = woken (held_with rows) boxes

abbrev adm1_verified : Verified
adm1_verified = record nothing_verified { adm1 = true }

abbrev verified_card : CardState
verified_card = record (card_with []) { verified = adm1_verified }

-- the card after commands, one after the other
abbrev after : CardState → List (List ℕ) → CardState
after card [] = card
after card (apdu ∷ more) = after (answer_of every card apdu).state more

-- ---- sessions

-- A text that an applet shows at a terminal profile is fetched once, and answered once.
greets : replies (card_with (row 0 1 0 (0x40 ∷ []) [] [] ∷ [])) (
    (0x80 ∷ 0x10 ∷ 0x00 ∷ 0x00 ∷ 0x08 ∷ 0x29 ∷ 0x00 ∷ 0xBF ∷ 0x61 ∷ 0x71 ∷ 0x00 ∷ 0x00 ∷ 0x13 ∷ [])
    ∷ (0x80 ∷ 0x12 ∷ 0x00 ∷ 0x00 ∷ 0x10 ∷ [])
    ∷ (0x80 ∷ 0x14 ∷ 0x00 ∷ 0x00 ∷ 0x0C ∷ 0x81 ∷ 0x03 ∷ 0x01 ∷ 0x21 ∷ 0x80 ∷ 0x82 ∷ 0x02 ∷ 0x82 ∷ 0x81 ∷ 0x83 ∷ 0x01 ∷ 0x00 ∷ [])
    ∷ [])
    ≡ (0x91 ∷ 0x10 ∷ []) ∷ (0xD0 ∷ 0x0E ∷ 0x81 ∷ 0x03 ∷ 0x01 ∷ 0x21 ∷ 0x80 ∷ 0x82 ∷ 0x02 ∷ 0x81 ∷ 0x02 ∷ 0x8D ∷ 0x03 ∷ 0x04 ∷ 0x48 ∷ 0x69 ∷ 0x90 ∷ 0x00 ∷ []) ∷ (0x90 ∷ 0x00 ∷ []) ∷ []
unfolding refused_if given and_given command_in fields_in instruction_tried carried_out file_outcome toolkit_outcome tried answer_of woken woken_boxes channel_tried keys_seen descriptor_in descriptors_in file_found telling status_told profile_taken command_fetched response_taken envelope_taken applet_installed applet_deleted profiled polled triggered enveloped fetched answered responded installed delete_carried told_one given_one caught_up wanted with_next_command driven trigger_order asks run_on run_of_row act address_digits row_from allowed allowed_event consulted tagged response_of value_in envelope_in envelope_of Reading.tag_at Reading.length_at Reading.value_at Reading.object_at Reading.outline_within Reading.outline_at Reading.template_of
greets = refl

-- A command is answered once it was fetched, with its own number, and once.
one_at_a_time : replies (card_with (row 0 1 0 (0x40 ∷ []) [] [] ∷ [])) (
    (0x80 ∷ 0x10 ∷ 0x00 ∷ 0x00 ∷ 0x08 ∷ 0x29 ∷ 0x00 ∷ 0xBF ∷ 0x61 ∷ 0x71 ∷ 0x00 ∷ 0x00 ∷ 0x13 ∷ [])
    ∷ (0x80 ∷ 0x14 ∷ 0x00 ∷ 0x00 ∷ 0x0C ∷ 0x81 ∷ 0x03 ∷ 0x01 ∷ 0x21 ∷ 0x80 ∷ 0x82 ∷ 0x02 ∷ 0x82 ∷ 0x81 ∷ 0x83 ∷ 0x01 ∷ 0x00 ∷ [])
    ∷ (0x80 ∷ 0x12 ∷ 0x00 ∷ 0x00 ∷ 0x10 ∷ [])
    ∷ (0x80 ∷ 0x14 ∷ 0x00 ∷ 0x00 ∷ 0x0C ∷ 0x81 ∷ 0x03 ∷ 0x02 ∷ 0x21 ∷ 0x80 ∷ 0x82 ∷ 0x02 ∷ 0x82 ∷ 0x81 ∷ 0x83 ∷ 0x01 ∷ 0x00 ∷ [])
    ∷ (0x80 ∷ 0x14 ∷ 0x00 ∷ 0x00 ∷ 0x0C ∷ 0x81 ∷ 0x03 ∷ 0x01 ∷ 0x21 ∷ 0x80 ∷ 0x82 ∷ 0x02 ∷ 0x82 ∷ 0x81 ∷ 0x83 ∷ 0x01 ∷ 0x00 ∷ [])
    ∷ (0x80 ∷ 0x14 ∷ 0x00 ∷ 0x00 ∷ 0x0C ∷ 0x81 ∷ 0x03 ∷ 0x01 ∷ 0x21 ∷ 0x80 ∷ 0x82 ∷ 0x02 ∷ 0x82 ∷ 0x81 ∷ 0x83 ∷ 0x01 ∷ 0x00 ∷ [])
    ∷ (0x80 ∷ 0x12 ∷ 0x00 ∷ 0x00 ∷ 0x10 ∷ [])
    ∷ [])
    ≡ (0x91 ∷ 0x10 ∷ []) ∷ (0x69 ∷ 0x85 ∷ []) ∷ (0xD0 ∷ 0x0E ∷ 0x81 ∷ 0x03 ∷ 0x01 ∷ 0x21 ∷ 0x80 ∷ 0x82 ∷ 0x02 ∷ 0x81 ∷ 0x02 ∷ 0x8D ∷ 0x03 ∷ 0x04 ∷ 0x48 ∷ 0x69 ∷ 0x90 ∷ 0x00 ∷ []) ∷ (0x6A ∷ 0x80 ∷ []) ∷ (0x90 ∷ 0x00 ∷ []) ∷ (0x69 ∷ 0x85 ∷ []) ∷ (0x69 ∷ 0x85 ∷ []) ∷ []
unfolding refused_if given and_given command_in fields_in instruction_tried carried_out file_outcome toolkit_outcome tried answer_of woken woken_boxes channel_tried keys_seen descriptor_in descriptors_in file_found telling status_told profile_taken command_fetched response_taken envelope_taken applet_installed applet_deleted profiled polled triggered enveloped fetched answered responded installed delete_carried told_one given_one caught_up wanted with_next_command driven trigger_order asks run_on run_of_row act address_digits row_from allowed allowed_event consulted tagged response_of value_in envelope_in envelope_of Reading.tag_at Reading.length_at Reading.value_at Reading.object_at Reading.outline_within Reading.outline_at Reading.template_of
one_at_a_time = refl

-- P1 and P2 come before the length, the length before the state, and the state before the number of bytes; 256 stands for all of them.
other_lengths : replies (card_with (row 0 1 0 (0x40 ∷ []) [] [] ∷ [])) (
    (0x80 ∷ 0x10 ∷ 0x00 ∷ 0x00 ∷ 0x00 ∷ [])
    ∷ (0x80 ∷ 0x10 ∷ 0x00 ∷ 0x01 ∷ 0x00 ∷ [])
    ∷ (0x80 ∷ 0x12 ∷ 0x00 ∷ 0x00 ∷ [])
    ∷ (0x80 ∷ 0x12 ∷ 0x01 ∷ 0x00 ∷ 0x00 ∷ [])
    ∷ (0x80 ∷ 0x12 ∷ 0x00 ∷ 0x00 ∷ 0x01 ∷ [])
    ∷ (0x80 ∷ 0x10 ∷ 0x00 ∷ 0x00 ∷ 0x08 ∷ 0x29 ∷ 0x00 ∷ 0xBF ∷ 0x61 ∷ 0x71 ∷ 0x00 ∷ 0x00 ∷ 0x13 ∷ [])
    ∷ (0x80 ∷ 0x12 ∷ 0x00 ∷ 0x00 ∷ 0x0F ∷ [])
    ∷ (0x80 ∷ 0x12 ∷ 0x00 ∷ 0x00 ∷ 0x11 ∷ [])
    ∷ (0x80 ∷ 0x12 ∷ 0x00 ∷ 0x00 ∷ 0x01 ∷ 0x04 ∷ [])
    ∷ (0x80 ∷ 0x12 ∷ 0x00 ∷ 0x00 ∷ 0x00 ∷ [])
    ∷ (0x80 ∷ 0x14 ∷ 0x00 ∷ 0x00 ∷ [])
    ∷ (0x80 ∷ 0x14 ∷ 0x00 ∷ 0x01 ∷ 0x00 ∷ [])
    ∷ (0x80 ∷ 0xC2 ∷ 0x00 ∷ 0x00 ∷ 0x00 ∷ [])
    ∷ (0x80 ∷ 0xC2 ∷ 0x01 ∷ 0x00 ∷ 0x00 ∷ [])
    ∷ (0x80 ∷ 0xC2 ∷ 0x00 ∷ 0x00 ∷ 0x03 ∷ 0xD3 ∷ 0x01 ∷ 0x82 ∷ [])
    ∷ [])
    ≡ (0x67 ∷ 0x00 ∷ []) ∷ (0x6A ∷ 0x86 ∷ []) ∷ (0x67 ∷ 0x00 ∷ []) ∷ (0x6A ∷ 0x86 ∷ []) ∷ (0x69 ∷ 0x85 ∷ []) ∷ (0x91 ∷ 0x10 ∷ []) ∷ (0x6C ∷ 0x10 ∷ []) ∷ (0x6C ∷ 0x10 ∷ []) ∷ (0x67 ∷ 0x00 ∷ []) ∷ (0xD0 ∷ 0x0E ∷ 0x81 ∷ 0x03 ∷ 0x01 ∷ 0x21 ∷ 0x80 ∷ 0x82 ∷ 0x02 ∷ 0x81 ∷ 0x02 ∷ 0x8D ∷ 0x03 ∷ 0x04 ∷ 0x48 ∷ 0x69 ∷ 0x90 ∷ 0x00 ∷ []) ∷ (0x67 ∷ 0x00 ∷ []) ∷ (0x6A ∷ 0x86 ∷ []) ∷ (0x67 ∷ 0x00 ∷ []) ∷ (0x6A ∷ 0x86 ∷ []) ∷ (0x6A ∷ 0x80 ∷ []) ∷ []
unfolding refused_if given and_given command_in fields_in instruction_tried carried_out file_outcome toolkit_outcome tried answer_of woken woken_boxes channel_tried keys_seen descriptor_in descriptors_in file_found telling status_told profile_taken command_fetched response_taken envelope_taken applet_installed applet_deleted profiled polled triggered enveloped fetched answered responded installed delete_carried told_one given_one caught_up wanted with_next_command driven trigger_order asks run_on run_of_row act address_digits row_from allowed allowed_event consulted tagged response_of value_in envelope_in envelope_of Reading.tag_at Reading.length_at Reading.value_at Reading.object_at Reading.outline_within Reading.outline_at Reading.template_of
other_lengths = refl

-- Three applets are told of a location: the newest of the smallest priority number first.
in_order_of_priority : replies (card_with (row 3 2 0 (0x03 ∷ []) [] [] ∷ row 6 1 1 (0x03 ∷ []) [] (0x03 ∷ 0x01 ∷ 0x41 ∷ []) ∷ row 13 1 2 (0x03 ∷ []) [] (0x03 ∷ 0x01 ∷ 0x42 ∷ []) ∷ [])) (
    (0x80 ∷ 0x10 ∷ 0x00 ∷ 0x00 ∷ 0x08 ∷ 0x29 ∷ 0x00 ∷ 0xBF ∷ 0x61 ∷ 0x71 ∷ 0x00 ∷ 0x00 ∷ 0x13 ∷ [])
    ∷ (0x80 ∷ 0x12 ∷ 0x00 ∷ 0x00 ∷ 0x0E ∷ [])
    ∷ (0x80 ∷ 0x14 ∷ 0x00 ∷ 0x00 ∷ 0x0C ∷ 0x81 ∷ 0x03 ∷ 0x01 ∷ 0x05 ∷ 0x00 ∷ 0x82 ∷ 0x02 ∷ 0x82 ∷ 0x81 ∷ 0x83 ∷ 0x01 ∷ 0x00 ∷ [])
    ∷ (0x80 ∷ 0xC2 ∷ 0x00 ∷ 0x00 ∷ 0x15 ∷ 0xD6 ∷ 0x13 ∷ 0x99 ∷ 0x01 ∷ 0x03 ∷ 0x82 ∷ 0x02 ∷ 0x82 ∷ 0x81 ∷ 0x9B ∷ 0x01 ∷ 0x00 ∷ 0x93 ∷ 0x07 ∷ 0x00 ∷ 0xF1 ∷ 0x10 ∷ 0x00 ∷ 0x01 ∷ 0x00 ∷ 0x02 ∷ [])
    ∷ (0x80 ∷ 0x12 ∷ 0x00 ∷ 0x00 ∷ 0x0F ∷ [])
    ∷ (0x80 ∷ 0x14 ∷ 0x00 ∷ 0x00 ∷ 0x0C ∷ 0x81 ∷ 0x03 ∷ 0x02 ∷ 0x21 ∷ 0x80 ∷ 0x82 ∷ 0x02 ∷ 0x82 ∷ 0x81 ∷ 0x83 ∷ 0x01 ∷ 0x00 ∷ [])
    ∷ (0x80 ∷ 0x12 ∷ 0x00 ∷ 0x00 ∷ 0x0F ∷ [])
    ∷ (0x80 ∷ 0x14 ∷ 0x00 ∷ 0x00 ∷ 0x0C ∷ 0x81 ∷ 0x03 ∷ 0x03 ∷ 0x21 ∷ 0x80 ∷ 0x82 ∷ 0x02 ∷ 0x82 ∷ 0x81 ∷ 0x83 ∷ 0x01 ∷ 0x00 ∷ [])
    ∷ (0x80 ∷ 0x12 ∷ 0x00 ∷ 0x00 ∷ 0x13 ∷ [])
    ∷ (0x80 ∷ 0x14 ∷ 0x00 ∷ 0x00 ∷ 0x0C ∷ 0x81 ∷ 0x03 ∷ 0x04 ∷ 0x21 ∷ 0x80 ∷ 0x82 ∷ 0x02 ∷ 0x82 ∷ 0x81 ∷ 0x83 ∷ 0x01 ∷ 0x00 ∷ [])
    ∷ [])
    ≡ (0x91 ∷ 0x0E ∷ []) ∷ (0xD0 ∷ 0x0C ∷ 0x81 ∷ 0x03 ∷ 0x01 ∷ 0x05 ∷ 0x00 ∷ 0x82 ∷ 0x02 ∷ 0x81 ∷ 0x82 ∷ 0x99 ∷ 0x01 ∷ 0x03 ∷ 0x90 ∷ 0x00 ∷ []) ∷ (0x90 ∷ 0x00 ∷ []) ∷ (0x91 ∷ 0x0F ∷ []) ∷ (0xD0 ∷ 0x0D ∷ 0x81 ∷ 0x03 ∷ 0x02 ∷ 0x21 ∷ 0x80 ∷ 0x82 ∷ 0x02 ∷ 0x81 ∷ 0x02 ∷ 0x8D ∷ 0x02 ∷ 0x04 ∷ 0x42 ∷ 0x90 ∷ 0x00 ∷ []) ∷ (0x91 ∷ 0x0F ∷ []) ∷ (0xD0 ∷ 0x0D ∷ 0x81 ∷ 0x03 ∷ 0x03 ∷ 0x21 ∷ 0x80 ∷ 0x82 ∷ 0x02 ∷ 0x81 ∷ 0x02 ∷ 0x8D ∷ 0x02 ∷ 0x04 ∷ 0x41 ∷ 0x90 ∷ 0x00 ∷ []) ∷ (0x91 ∷ 0x13 ∷ []) ∷ (0xD0 ∷ 0x11 ∷ 0x81 ∷ 0x03 ∷ 0x04 ∷ 0x21 ∷ 0x80 ∷ 0x82 ∷ 0x02 ∷ 0x81 ∷ 0x02 ∷ 0x8D ∷ 0x06 ∷ 0x04 ∷ 0x4D ∷ 0x6F ∷ 0x76 ∷ 0x65 ∷ 0x64 ∷ 0x90 ∷ 0x00 ∷ []) ∷ (0x90 ∷ 0x00 ∷ []) ∷ []
unfolding refused_if given and_given command_in fields_in instruction_tried carried_out file_outcome toolkit_outcome tried answer_of woken woken_boxes channel_tried keys_seen descriptor_in descriptors_in file_found telling status_told profile_taken command_fetched response_taken envelope_taken applet_installed applet_deleted profiled polled triggered enveloped fetched answered responded installed delete_carried told_one given_one caught_up wanted with_next_command driven trigger_order asks run_on run_of_row act address_digits row_from allowed allowed_event consulted tagged response_of value_in envelope_in envelope_of Reading.tag_at Reading.length_at Reading.value_at Reading.object_at Reading.outline_within Reading.outline_at Reading.template_of
in_order_of_priority = refl

-- A menu is set up. What is selected in it while the applet waits for an answer, is told to it late.
selected_late : replies (card_with (row 1 1 0 [] (0x4D ∷ 0x65 ∷ 0x6E ∷ 0x75 ∷ []) [] ∷ [])) (
    (0x80 ∷ 0x10 ∷ 0x00 ∷ 0x00 ∷ 0x08 ∷ 0x29 ∷ 0x00 ∷ 0xBF ∷ 0x61 ∷ 0x71 ∷ 0x00 ∷ 0x00 ∷ 0x13 ∷ [])
    ∷ (0x80 ∷ 0x12 ∷ 0x00 ∷ 0x00 ∷ 0x18 ∷ [])
    ∷ (0x80 ∷ 0x14 ∷ 0x00 ∷ 0x00 ∷ 0x0C ∷ 0x81 ∷ 0x03 ∷ 0x01 ∷ 0x25 ∷ 0x00 ∷ 0x82 ∷ 0x02 ∷ 0x82 ∷ 0x81 ∷ 0x83 ∷ 0x01 ∷ 0x00 ∷ [])
    ∷ (0x80 ∷ 0xC2 ∷ 0x00 ∷ 0x00 ∷ 0x09 ∷ 0xD3 ∷ 0x07 ∷ 0x82 ∷ 0x02 ∷ 0x01 ∷ 0x81 ∷ 0x90 ∷ 0x01 ∷ 0x02 ∷ [])
    ∷ (0x80 ∷ 0x12 ∷ 0x00 ∷ 0x00 ∷ 0x1F ∷ [])
    ∷ (0x80 ∷ 0xC2 ∷ 0x00 ∷ 0x00 ∷ 0x09 ∷ 0xD3 ∷ 0x07 ∷ 0x82 ∷ 0x02 ∷ 0x01 ∷ 0x81 ∷ 0x90 ∷ 0x01 ∷ 0x02 ∷ [])
    ∷ (0x80 ∷ 0x14 ∷ 0x00 ∷ 0x00 ∷ 0x0F ∷ 0x81 ∷ 0x03 ∷ 0x02 ∷ 0x24 ∷ 0x00 ∷ 0x82 ∷ 0x02 ∷ 0x82 ∷ 0x81 ∷ 0x83 ∷ 0x01 ∷ 0x00 ∷ 0x90 ∷ 0x01 ∷ 0x02 ∷ [])
    ∷ (0x80 ∷ 0x12 ∷ 0x00 ∷ 0x00 ∷ 0x0E ∷ [])
    ∷ (0x80 ∷ 0x14 ∷ 0x00 ∷ 0x00 ∷ 0x0C ∷ 0x81 ∷ 0x03 ∷ 0x03 ∷ 0x20 ∷ 0x00 ∷ 0x82 ∷ 0x02 ∷ 0x82 ∷ 0x81 ∷ 0x83 ∷ 0x01 ∷ 0x00 ∷ [])
    ∷ [])
    ≡ (0x91 ∷ 0x18 ∷ []) ∷ (0xD0 ∷ 0x16 ∷ 0x81 ∷ 0x03 ∷ 0x01 ∷ 0x25 ∷ 0x00 ∷ 0x82 ∷ 0x02 ∷ 0x81 ∷ 0x82 ∷ 0x85 ∷ 0x04 ∷ 0x4D ∷ 0x65 ∷ 0x6E ∷ 0x75 ∷ 0x8F ∷ 0x05 ∷ 0x02 ∷ 0x4D ∷ 0x65 ∷ 0x6E ∷ 0x75 ∷ 0x90 ∷ 0x00 ∷ []) ∷ (0x90 ∷ 0x00 ∷ []) ∷ (0x91 ∷ 0x1F ∷ []) ∷ (0xD0 ∷ 0x1D ∷ 0x81 ∷ 0x03 ∷ 0x02 ∷ 0x24 ∷ 0x00 ∷ 0x82 ∷ 0x02 ∷ 0x81 ∷ 0x82 ∷ 0x85 ∷ 0x04 ∷ 0x50 ∷ 0x69 ∷ 0x63 ∷ 0x6B ∷ 0x8F ∷ 0x05 ∷ 0x01 ∷ 0x54 ∷ 0x65 ∷ 0x78 ∷ 0x74 ∷ 0x8F ∷ 0x05 ∷ 0x02 ∷ 0x54 ∷ 0x6F ∷ 0x6E ∷ 0x65 ∷ 0x90 ∷ 0x00 ∷ []) ∷ (0x90 ∷ 0x00 ∷ []) ∷ (0x91 ∷ 0x0E ∷ []) ∷ (0xD0 ∷ 0x0C ∷ 0x81 ∷ 0x03 ∷ 0x03 ∷ 0x20 ∷ 0x00 ∷ 0x82 ∷ 0x02 ∷ 0x81 ∷ 0x03 ∷ 0x8E ∷ 0x01 ∷ 0x10 ∷ 0x90 ∷ 0x00 ∷ []) ∷ (0x91 ∷ 0x1F ∷ []) ∷ []
unfolding refused_if given and_given command_in fields_in instruction_tried carried_out file_outcome toolkit_outcome tried answer_of woken woken_boxes channel_tried keys_seen descriptor_in descriptors_in file_found telling status_told profile_taken command_fetched response_taken envelope_taken applet_installed applet_deleted profiled polled triggered enveloped fetched answered responded installed delete_carried told_one given_one caught_up wanted with_next_command driven trigger_order asks run_on run_of_row act address_digits row_from allowed allowed_event consulted tagged response_of value_in envelope_in envelope_of Reading.tag_at Reading.length_at Reading.value_at Reading.object_at Reading.outline_within Reading.outline_at Reading.template_of
selected_late = refl

-- No more than 16 events can be kept.
busy : replies (card_with (row 1 1 0 [] (0x4D ∷ 0x65 ∷ 0x6E ∷ 0x75 ∷ []) [] ∷ [])) (
    (0x80 ∷ 0x10 ∷ 0x00 ∷ 0x00 ∷ 0x08 ∷ 0x29 ∷ 0x00 ∷ 0xBF ∷ 0x61 ∷ 0x71 ∷ 0x00 ∷ 0x00 ∷ 0x13 ∷ [])
    ∷ (0x80 ∷ 0x12 ∷ 0x00 ∷ 0x00 ∷ 0x18 ∷ [])
    ∷ (0x80 ∷ 0x14 ∷ 0x00 ∷ 0x00 ∷ 0x0C ∷ 0x81 ∷ 0x03 ∷ 0x01 ∷ 0x25 ∷ 0x00 ∷ 0x82 ∷ 0x02 ∷ 0x82 ∷ 0x81 ∷ 0x83 ∷ 0x01 ∷ 0x00 ∷ [])
    ∷ (0x80 ∷ 0xC2 ∷ 0x00 ∷ 0x00 ∷ 0x09 ∷ 0xD3 ∷ 0x07 ∷ 0x82 ∷ 0x02 ∷ 0x01 ∷ 0x81 ∷ 0x90 ∷ 0x01 ∷ 0x02 ∷ [])
    ∷ (0x80 ∷ 0x12 ∷ 0x00 ∷ 0x00 ∷ 0x1F ∷ [])
    ∷ (0x80 ∷ 0xC2 ∷ 0x00 ∷ 0x00 ∷ 0x09 ∷ 0xD3 ∷ 0x07 ∷ 0x82 ∷ 0x02 ∷ 0x01 ∷ 0x81 ∷ 0x90 ∷ 0x01 ∷ 0x02 ∷ [])
    ∷ (0x80 ∷ 0xC2 ∷ 0x00 ∷ 0x00 ∷ 0x09 ∷ 0xD3 ∷ 0x07 ∷ 0x82 ∷ 0x02 ∷ 0x01 ∷ 0x81 ∷ 0x90 ∷ 0x01 ∷ 0x02 ∷ [])
    ∷ (0x80 ∷ 0xC2 ∷ 0x00 ∷ 0x00 ∷ 0x09 ∷ 0xD3 ∷ 0x07 ∷ 0x82 ∷ 0x02 ∷ 0x01 ∷ 0x81 ∷ 0x90 ∷ 0x01 ∷ 0x02 ∷ [])
    ∷ (0x80 ∷ 0xC2 ∷ 0x00 ∷ 0x00 ∷ 0x09 ∷ 0xD3 ∷ 0x07 ∷ 0x82 ∷ 0x02 ∷ 0x01 ∷ 0x81 ∷ 0x90 ∷ 0x01 ∷ 0x02 ∷ [])
    ∷ (0x80 ∷ 0xC2 ∷ 0x00 ∷ 0x00 ∷ 0x09 ∷ 0xD3 ∷ 0x07 ∷ 0x82 ∷ 0x02 ∷ 0x01 ∷ 0x81 ∷ 0x90 ∷ 0x01 ∷ 0x02 ∷ [])
    ∷ (0x80 ∷ 0xC2 ∷ 0x00 ∷ 0x00 ∷ 0x09 ∷ 0xD3 ∷ 0x07 ∷ 0x82 ∷ 0x02 ∷ 0x01 ∷ 0x81 ∷ 0x90 ∷ 0x01 ∷ 0x02 ∷ [])
    ∷ (0x80 ∷ 0xC2 ∷ 0x00 ∷ 0x00 ∷ 0x09 ∷ 0xD3 ∷ 0x07 ∷ 0x82 ∷ 0x02 ∷ 0x01 ∷ 0x81 ∷ 0x90 ∷ 0x01 ∷ 0x02 ∷ [])
    ∷ (0x80 ∷ 0xC2 ∷ 0x00 ∷ 0x00 ∷ 0x09 ∷ 0xD3 ∷ 0x07 ∷ 0x82 ∷ 0x02 ∷ 0x01 ∷ 0x81 ∷ 0x90 ∷ 0x01 ∷ 0x02 ∷ [])
    ∷ (0x80 ∷ 0xC2 ∷ 0x00 ∷ 0x00 ∷ 0x09 ∷ 0xD3 ∷ 0x07 ∷ 0x82 ∷ 0x02 ∷ 0x01 ∷ 0x81 ∷ 0x90 ∷ 0x01 ∷ 0x02 ∷ [])
    ∷ (0x80 ∷ 0xC2 ∷ 0x00 ∷ 0x00 ∷ 0x09 ∷ 0xD3 ∷ 0x07 ∷ 0x82 ∷ 0x02 ∷ 0x01 ∷ 0x81 ∷ 0x90 ∷ 0x01 ∷ 0x02 ∷ [])
    ∷ (0x80 ∷ 0xC2 ∷ 0x00 ∷ 0x00 ∷ 0x09 ∷ 0xD3 ∷ 0x07 ∷ 0x82 ∷ 0x02 ∷ 0x01 ∷ 0x81 ∷ 0x90 ∷ 0x01 ∷ 0x02 ∷ [])
    ∷ (0x80 ∷ 0xC2 ∷ 0x00 ∷ 0x00 ∷ 0x09 ∷ 0xD3 ∷ 0x07 ∷ 0x82 ∷ 0x02 ∷ 0x01 ∷ 0x81 ∷ 0x90 ∷ 0x01 ∷ 0x02 ∷ [])
    ∷ (0x80 ∷ 0xC2 ∷ 0x00 ∷ 0x00 ∷ 0x09 ∷ 0xD3 ∷ 0x07 ∷ 0x82 ∷ 0x02 ∷ 0x01 ∷ 0x81 ∷ 0x90 ∷ 0x01 ∷ 0x02 ∷ [])
    ∷ (0x80 ∷ 0xC2 ∷ 0x00 ∷ 0x00 ∷ 0x09 ∷ 0xD3 ∷ 0x07 ∷ 0x82 ∷ 0x02 ∷ 0x01 ∷ 0x81 ∷ 0x90 ∷ 0x01 ∷ 0x02 ∷ [])
    ∷ (0x80 ∷ 0xC2 ∷ 0x00 ∷ 0x00 ∷ 0x09 ∷ 0xD3 ∷ 0x07 ∷ 0x82 ∷ 0x02 ∷ 0x01 ∷ 0x81 ∷ 0x90 ∷ 0x01 ∷ 0x02 ∷ [])
    ∷ (0x80 ∷ 0xC2 ∷ 0x00 ∷ 0x00 ∷ 0x09 ∷ 0xD3 ∷ 0x07 ∷ 0x82 ∷ 0x02 ∷ 0x01 ∷ 0x81 ∷ 0x90 ∷ 0x01 ∷ 0x02 ∷ [])
    ∷ (0x80 ∷ 0xC2 ∷ 0x00 ∷ 0x00 ∷ 0x09 ∷ 0xD3 ∷ 0x07 ∷ 0x82 ∷ 0x02 ∷ 0x01 ∷ 0x81 ∷ 0x90 ∷ 0x01 ∷ 0x02 ∷ [])
    ∷ [])
    ≡ (0x91 ∷ 0x18 ∷ []) ∷ (0xD0 ∷ 0x16 ∷ 0x81 ∷ 0x03 ∷ 0x01 ∷ 0x25 ∷ 0x00 ∷ 0x82 ∷ 0x02 ∷ 0x81 ∷ 0x82 ∷ 0x85 ∷ 0x04 ∷ 0x4D ∷ 0x65 ∷ 0x6E ∷ 0x75 ∷ 0x8F ∷ 0x05 ∷ 0x02 ∷ 0x4D ∷ 0x65 ∷ 0x6E ∷ 0x75 ∷ 0x90 ∷ 0x00 ∷ []) ∷ (0x90 ∷ 0x00 ∷ []) ∷ (0x91 ∷ 0x1F ∷ []) ∷ (0xD0 ∷ 0x1D ∷ 0x81 ∷ 0x03 ∷ 0x02 ∷ 0x24 ∷ 0x00 ∷ 0x82 ∷ 0x02 ∷ 0x81 ∷ 0x82 ∷ 0x85 ∷ 0x04 ∷ 0x50 ∷ 0x69 ∷ 0x63 ∷ 0x6B ∷ 0x8F ∷ 0x05 ∷ 0x01 ∷ 0x54 ∷ 0x65 ∷ 0x78 ∷ 0x74 ∷ 0x8F ∷ 0x05 ∷ 0x02 ∷ 0x54 ∷ 0x6F ∷ 0x6E ∷ 0x65 ∷ 0x90 ∷ 0x00 ∷ []) ∷ (0x90 ∷ 0x00 ∷ []) ∷ (0x90 ∷ 0x00 ∷ []) ∷ (0x90 ∷ 0x00 ∷ []) ∷ (0x90 ∷ 0x00 ∷ []) ∷ (0x90 ∷ 0x00 ∷ []) ∷ (0x90 ∷ 0x00 ∷ []) ∷ (0x90 ∷ 0x00 ∷ []) ∷ (0x90 ∷ 0x00 ∷ []) ∷ (0x90 ∷ 0x00 ∷ []) ∷ (0x90 ∷ 0x00 ∷ []) ∷ (0x90 ∷ 0x00 ∷ []) ∷ (0x90 ∷ 0x00 ∷ []) ∷ (0x90 ∷ 0x00 ∷ []) ∷ (0x90 ∷ 0x00 ∷ []) ∷ (0x90 ∷ 0x00 ∷ []) ∷ (0x90 ∷ 0x00 ∷ []) ∷ (0x93 ∷ 0x00 ∷ []) ∷ []
unfolding refused_if given and_given command_in fields_in instruction_tried carried_out file_outcome toolkit_outcome tried answer_of woken woken_boxes channel_tried keys_seen descriptor_in descriptors_in file_found telling status_told profile_taken command_fetched response_taken envelope_taken applet_installed applet_deleted profiled polled triggered enveloped fetched answered responded installed delete_carried told_one given_one caught_up wanted with_next_command driven trigger_order asks run_on run_of_row act address_digits row_from allowed allowed_event consulted tagged response_of value_in envelope_in envelope_of Reading.tag_at Reading.length_at Reading.value_at Reading.object_at Reading.outline_within Reading.outline_at Reading.template_of
busy = refl

-- A number that begins with the kept digits is not allowed.
answers_calls : replies (card_with (row 4 1 0 (0x45 ∷ []) [] (0x31 ∷ []) ∷ [])) (
    (0x80 ∷ 0xC2 ∷ 0x00 ∷ 0x00 ∷ 0x0C ∷ 0xD4 ∷ 0x0A ∷ 0x82 ∷ 0x02 ∷ 0x82 ∷ 0x81 ∷ 0x86 ∷ 0x04 ∷ 0x81 ∷ 0x21 ∷ 0x43 ∷ 0xF5 ∷ [])
    ∷ (0x80 ∷ 0xC2 ∷ 0x00 ∷ 0x00 ∷ 0x0A ∷ 0xD4 ∷ 0x08 ∷ 0x82 ∷ 0x02 ∷ 0x82 ∷ 0x81 ∷ 0x86 ∷ 0x02 ∷ 0x81 ∷ 0xF2 ∷ [])
    ∷ (0x80 ∷ 0xC2 ∷ 0x00 ∷ 0x00 ∷ 0x0A ∷ 0xD4 ∷ 0x08 ∷ 0x82 ∷ 0x02 ∷ 0x82 ∷ 0x81 ∷ 0x86 ∷ 0x02 ∷ 0x81 ∷ 0xF2 ∷ 0x01 ∷ [])
    ∷ [])
    ≡ (0x01 ∷ 0x00 ∷ 0x90 ∷ 0x00 ∷ []) ∷ (0x00 ∷ 0x00 ∷ 0x90 ∷ 0x00 ∷ []) ∷ (0x00 ∷ 0x90 ∷ 0x00 ∷ []) ∷ []
unfolding refused_if given and_given command_in fields_in instruction_tried carried_out file_outcome toolkit_outcome tried answer_of woken woken_boxes channel_tried keys_seen descriptor_in descriptors_in file_found telling status_told profile_taken command_fetched response_taken envelope_taken applet_installed applet_deleted profiled polled triggered enveloped fetched answered responded installed delete_carried told_one given_one caught_up wanted with_next_command driven trigger_order asks run_on run_of_row act address_digits row_from allowed allowed_event consulted tagged response_of value_in envelope_in envelope_of Reading.tag_at Reading.length_at Reading.value_at Reading.object_at Reading.outline_within Reading.outline_at Reading.template_of
answers_calls = refl

-- ADM1 guards INSTALL and DELETE; an applet that waits is not deleted, and one that is deleted is gone.
deleted_once : replies (card_with (row 0 1 0 (0x40 ∷ []) [] [] ∷ [])) (
    (0xF0 ∷ 0xE4 ∷ 0x00 ∷ 0x00 ∷ [])
    ∷ (0x00 ∷ 0x20 ∷ 0x00 ∷ 0x0A ∷ 0x08 ∷ 0x38 ∷ 0x38 ∷ 0x38 ∷ 0x38 ∷ 0x38 ∷ 0x38 ∷ 0x38 ∷ 0x38 ∷ [])
    ∷ (0x80 ∷ 0x10 ∷ 0x00 ∷ 0x00 ∷ 0x08 ∷ 0x29 ∷ 0x00 ∷ 0xBF ∷ 0x61 ∷ 0x71 ∷ 0x00 ∷ 0x00 ∷ 0x13 ∷ [])
    ∷ (0x80 ∷ 0x12 ∷ 0x00 ∷ 0x00 ∷ 0x10 ∷ [])
    ∷ (0xF0 ∷ 0xE4 ∷ 0x00 ∷ 0x00 ∷ [])
    ∷ (0x80 ∷ 0x14 ∷ 0x00 ∷ 0x00 ∷ 0x0C ∷ 0x81 ∷ 0x03 ∷ 0x01 ∷ 0x21 ∷ 0x80 ∷ 0x82 ∷ 0x02 ∷ 0x82 ∷ 0x81 ∷ 0x83 ∷ 0x01 ∷ 0x00 ∷ [])
    ∷ (0xF0 ∷ 0xE6 ∷ 0x01 ∷ 0x00 ∷ 0x03 ∷ 0x01 ∷ 0x40 ∷ 0x00 ∷ [])
    ∷ (0xF0 ∷ 0xE4 ∷ 0x00 ∷ 0x00 ∷ [])
    ∷ (0xF0 ∷ 0xE4 ∷ 0x00 ∷ 0x00 ∷ [])
    ∷ (0xF0 ∷ 0xE6 ∷ 0x01 ∷ 0x00 ∷ 0x03 ∷ 0x01 ∷ 0x40 ∷ 0x00 ∷ [])
    ∷ [])
    ≡ (0x69 ∷ 0x82 ∷ []) ∷ (0x90 ∷ 0x00 ∷ []) ∷ (0x91 ∷ 0x10 ∷ []) ∷ (0xD0 ∷ 0x0E ∷ 0x81 ∷ 0x03 ∷ 0x01 ∷ 0x21 ∷ 0x80 ∷ 0x82 ∷ 0x02 ∷ 0x81 ∷ 0x02 ∷ 0x8D ∷ 0x03 ∷ 0x04 ∷ 0x48 ∷ 0x69 ∷ 0x90 ∷ 0x00 ∷ []) ∷ (0x69 ∷ 0x85 ∷ []) ∷ (0x90 ∷ 0x00 ∷ []) ∷ (0x69 ∷ 0x85 ∷ []) ∷ (0x90 ∷ 0x00 ∷ []) ∷ (0x6A ∷ 0x88 ∷ []) ∷ (0x6A ∷ 0x88 ∷ []) ∷ []
unfolding refused_if given and_given command_in fields_in instruction_tried carried_out file_outcome toolkit_outcome tried answer_of woken woken_boxes channel_tried keys_seen pin_found presented pin_presented pin_verified descriptor_in descriptors_in file_found telling status_told profile_taken command_fetched response_taken envelope_taken applet_installed applet_deleted profiled polled triggered enveloped fetched answered responded installed delete_carried told_one given_one caught_up wanted with_next_command driven trigger_order asks run_on run_of_row act address_digits row_from allowed allowed_event consulted tagged response_of value_in envelope_in envelope_of Reading.tag_at Reading.length_at Reading.value_at Reading.object_at Reading.outline_within Reading.outline_at Reading.template_of
deleted_once = refl

-- P1 and P2 come before the length, the length before ADM1, and ADM1 before the data; a new applet runs at the next terminal profile.
installed_in_order : replies (card_with []) (
    (0xF0 ∷ 0xE6 ∷ 0x00 ∷ 0x00 ∷ 0x03 ∷ 0x01 ∷ 0x40 ∷ 0x00 ∷ [])
    ∷ (0xF0 ∷ 0xE6 ∷ 0x01 ∷ 0x20 ∷ [])
    ∷ (0xF0 ∷ 0xE6 ∷ 0x01 ∷ 0x00 ∷ [])
    ∷ (0xF0 ∷ 0xE4 ∷ 0x01 ∷ 0x00 ∷ 0x00 ∷ [])
    ∷ (0xF0 ∷ 0xE4 ∷ 0x00 ∷ 0x00 ∷ 0x01 ∷ 0xAA ∷ [])
    ∷ (0xF0 ∷ 0xE6 ∷ 0x01 ∷ 0x00 ∷ 0x03 ∷ 0x02 ∷ 0x40 ∷ 0x40 ∷ [])
    ∷ (0x00 ∷ 0x20 ∷ 0x00 ∷ 0x0A ∷ 0x08 ∷ 0x38 ∷ 0x38 ∷ 0x38 ∷ 0x38 ∷ 0x38 ∷ 0x38 ∷ 0x38 ∷ 0x38 ∷ [])
    ∷ (0xF0 ∷ 0xE6 ∷ 0x01 ∷ 0x00 ∷ 0x03 ∷ 0x02 ∷ 0x40 ∷ 0x40 ∷ [])
    ∷ (0xF0 ∷ 0xE6 ∷ 0x01 ∷ 0x00 ∷ 0x03 ∷ 0x01 ∷ 0x40 ∷ 0x00 ∷ [])
    ∷ (0x80 ∷ 0x10 ∷ 0x00 ∷ 0x00 ∷ 0x08 ∷ 0x29 ∷ 0x00 ∷ 0xBF ∷ 0x61 ∷ 0x71 ∷ 0x00 ∷ 0x00 ∷ 0x13 ∷ [])
    ∷ [])
    ≡ (0x6A ∷ 0x86 ∷ []) ∷ (0x6A ∷ 0x86 ∷ []) ∷ (0x67 ∷ 0x00 ∷ []) ∷ (0x6A ∷ 0x86 ∷ []) ∷ (0x67 ∷ 0x00 ∷ []) ∷ (0x69 ∷ 0x82 ∷ []) ∷ (0x90 ∷ 0x00 ∷ []) ∷ (0x6A ∷ 0x80 ∷ []) ∷ (0x90 ∷ 0x00 ∷ []) ∷ (0x91 ∷ 0x10 ∷ []) ∷ []
unfolding refused_if given and_given command_in fields_in instruction_tried carried_out file_outcome toolkit_outcome tried answer_of woken woken_boxes channel_tried keys_seen pin_found presented pin_presented pin_verified descriptor_in descriptors_in file_found telling status_told profile_taken command_fetched response_taken envelope_taken applet_installed applet_deleted profiled polled triggered enveloped fetched answered responded installed delete_carried told_one given_one caught_up wanted with_next_command driven trigger_order asks run_on run_of_row act address_digits row_from allowed allowed_event consulted tagged response_of value_in envelope_in envelope_of Reading.tag_at Reading.length_at Reading.value_at Reading.object_at Reading.outline_within Reading.outline_at Reading.template_of
installed_in_order = refl

-- A timer that an applet started comes back to it.
ticks : replies (card_with (row 2 1 0 (0x40 ∷ []) [] [] ∷ [])) (
    (0x80 ∷ 0x10 ∷ 0x00 ∷ 0x00 ∷ 0x08 ∷ 0x29 ∷ 0x00 ∷ 0xBF ∷ 0x61 ∷ 0x71 ∷ 0x00 ∷ 0x00 ∷ 0x13 ∷ [])
    ∷ (0x80 ∷ 0x12 ∷ 0x00 ∷ 0x00 ∷ 0x13 ∷ [])
    ∷ (0x80 ∷ 0x14 ∷ 0x00 ∷ 0x00 ∷ 0x0F ∷ 0x81 ∷ 0x03 ∷ 0x01 ∷ 0x27 ∷ 0x00 ∷ 0x82 ∷ 0x02 ∷ 0x82 ∷ 0x81 ∷ 0x83 ∷ 0x01 ∷ 0x00 ∷ 0xA4 ∷ 0x01 ∷ 0x01 ∷ [])
    ∷ (0x80 ∷ 0xC2 ∷ 0x00 ∷ 0x00 ∷ 0x0E ∷ 0xD7 ∷ 0x0C ∷ 0x82 ∷ 0x02 ∷ 0x82 ∷ 0x81 ∷ 0xA4 ∷ 0x01 ∷ 0x01 ∷ 0xA5 ∷ 0x03 ∷ 0x00 ∷ 0x50 ∷ 0x00 ∷ [])
    ∷ [])
    ≡ (0x91 ∷ 0x13 ∷ []) ∷ (0xD0 ∷ 0x11 ∷ 0x81 ∷ 0x03 ∷ 0x01 ∷ 0x27 ∷ 0x00 ∷ 0x82 ∷ 0x02 ∷ 0x81 ∷ 0x82 ∷ 0xA4 ∷ 0x01 ∷ 0x01 ∷ 0xA5 ∷ 0x03 ∷ 0x00 ∷ 0x50 ∷ 0x00 ∷ 0x90 ∷ 0x00 ∷ []) ∷ (0x90 ∷ 0x00 ∷ []) ∷ (0x91 ∷ 0x12 ∷ []) ∷ []
unfolding refused_if given and_given command_in fields_in instruction_tried carried_out file_outcome toolkit_outcome tried answer_of woken woken_boxes channel_tried keys_seen descriptor_in descriptors_in file_found telling status_told profile_taken command_fetched response_taken envelope_taken applet_installed applet_deleted profiled polled triggered enveloped fetched answered responded installed delete_carried told_one given_one caught_up wanted with_next_command driven trigger_order asks run_on run_of_row act address_digits row_from allowed allowed_event consulted tagged response_of value_in envelope_in envelope_of Reading.tag_at Reading.length_at Reading.value_at Reading.object_at Reading.outline_within Reading.outline_at Reading.template_of
ticks = refl

-- A timer that nobody holds is told to nobody.
nobodys_timer : replies (card_with (row 2 1 0 (0x40 ∷ []) [] [] ∷ [])) (
    (0x80 ∷ 0xC2 ∷ 0x00 ∷ 0x00 ∷ 0x0E ∷ 0xD7 ∷ 0x0C ∷ 0x82 ∷ 0x02 ∷ 0x82 ∷ 0x81 ∷ 0xA4 ∷ 0x01 ∷ 0x02 ∷ 0xA5 ∷ 0x03 ∷ 0x00 ∷ 0x50 ∷ 0x00 ∷ [])
    ∷ [])
    ≡ (0x90 ∷ 0x00 ∷ []) ∷ []
unfolding refused_if given and_given command_in fields_in instruction_tried carried_out file_outcome toolkit_outcome tried answer_of woken woken_boxes channel_tried keys_seen descriptor_in descriptors_in file_found telling status_told profile_taken command_fetched response_taken envelope_taken applet_installed applet_deleted profiled polled triggered enveloped fetched answered responded installed delete_carried told_one given_one caught_up wanted with_next_command driven trigger_order asks run_on run_of_row act address_digits row_from allowed allowed_event consulted tagged response_of value_in envelope_in envelope_of Reading.tag_at Reading.length_at Reading.value_at Reading.object_at Reading.outline_within Reading.outline_at Reading.template_of
nobodys_timer = refl

-- A row for STATUS makes the card ask to be polled, and STATUS is told to it.
polled_too : replies (card_with (row 6 1 0 (0x41 ∷ []) [] (0x41 ∷ 0x01 ∷ 0x41 ∷ []) ∷ [])) (
    (0x80 ∷ 0x10 ∷ 0x00 ∷ 0x00 ∷ 0x08 ∷ 0x29 ∷ 0x00 ∷ 0xBF ∷ 0x61 ∷ 0x71 ∷ 0x00 ∷ 0x00 ∷ 0x13 ∷ [])
    ∷ (0x80 ∷ 0x12 ∷ 0x00 ∷ 0x00 ∷ 0x0F ∷ [])
    ∷ (0x80 ∷ 0x14 ∷ 0x00 ∷ 0x00 ∷ 0x0C ∷ 0x81 ∷ 0x03 ∷ 0x01 ∷ 0x03 ∷ 0x00 ∷ 0x82 ∷ 0x02 ∷ 0x82 ∷ 0x81 ∷ 0x83 ∷ 0x01 ∷ 0x00 ∷ [])
    ∷ (0x80 ∷ 0xF2 ∷ 0x00 ∷ 0x0C ∷ [])
    ∷ [])
    ≡ (0x91 ∷ 0x0F ∷ []) ∷ (0xD0 ∷ 0x0D ∷ 0x81 ∷ 0x03 ∷ 0x01 ∷ 0x03 ∷ 0x00 ∷ 0x82 ∷ 0x02 ∷ 0x81 ∷ 0x82 ∷ 0x84 ∷ 0x02 ∷ 0x01 ∷ 0x1E ∷ 0x90 ∷ 0x00 ∷ []) ∷ (0x90 ∷ 0x00 ∷ []) ∷ (0x91 ∷ 0x0F ∷ []) ∷ []
unfolding refused_if given and_given command_in fields_in instruction_tried carried_out file_outcome toolkit_outcome tried answer_of woken woken_boxes channel_tried keys_seen descriptor_in descriptors_in file_found telling status_told profile_taken command_fetched response_taken envelope_taken applet_installed applet_deleted profiled polled triggered enveloped fetched answered responded installed delete_carried told_one given_one caught_up wanted with_next_command driven trigger_order asks run_on run_of_row act address_digits row_from allowed allowed_event consulted tagged response_of value_in envelope_in envelope_of Reading.tag_at Reading.length_at Reading.value_at Reading.object_at Reading.outline_within Reading.outline_at Reading.template_of
polled_too = refl

-- Two applets send one after the other, to a handset that sets up no events.
one_after_the_other : replies (card_with (row 3 2 0 (0x03 ∷ []) [] [] ∷ row 10 1 1 (0x03 ∷ []) [] [] ∷ [])) (
    (0x80 ∷ 0x10 ∷ 0x00 ∷ 0x00 ∷ 0x08 ∷ 0x29 ∷ 0x00 ∷ 0x9F ∷ 0x41 ∷ 0x70 ∷ 0x00 ∷ 0x00 ∷ 0x13 ∷ [])
    ∷ (0x80 ∷ 0xC2 ∷ 0x00 ∷ 0x00 ∷ 0x15 ∷ 0xD6 ∷ 0x13 ∷ 0x99 ∷ 0x01 ∷ 0x03 ∷ 0x82 ∷ 0x02 ∷ 0x82 ∷ 0x81 ∷ 0x9B ∷ 0x01 ∷ 0x00 ∷ 0x93 ∷ 0x07 ∷ 0x00 ∷ 0xF1 ∷ 0x10 ∷ 0x00 ∷ 0x01 ∷ 0x00 ∷ 0x02 ∷ [])
    ∷ (0x80 ∷ 0x12 ∷ 0x00 ∷ 0x00 ∷ 0x13 ∷ [])
    ∷ (0x80 ∷ 0x14 ∷ 0x00 ∷ 0x00 ∷ 0x0C ∷ 0x81 ∷ 0x03 ∷ 0x01 ∷ 0x21 ∷ 0x80 ∷ 0x82 ∷ 0x02 ∷ 0x82 ∷ 0x81 ∷ 0x83 ∷ 0x01 ∷ 0x00 ∷ [])
    ∷ (0x80 ∷ 0x12 ∷ 0x00 ∷ 0x00 ∷ 0x13 ∷ [])
    ∷ (0x80 ∷ 0x14 ∷ 0x00 ∷ 0x00 ∷ 0x0C ∷ 0x81 ∷ 0x03 ∷ 0x02 ∷ 0x21 ∷ 0x80 ∷ 0x82 ∷ 0x02 ∷ 0x82 ∷ 0x81 ∷ 0x83 ∷ 0x01 ∷ 0x00 ∷ [])
    ∷ [])
    ≡ (0x90 ∷ 0x00 ∷ []) ∷ (0x91 ∷ 0x13 ∷ []) ∷ (0xD0 ∷ 0x11 ∷ 0x81 ∷ 0x03 ∷ 0x01 ∷ 0x21 ∷ 0x80 ∷ 0x82 ∷ 0x02 ∷ 0x81 ∷ 0x02 ∷ 0x8D ∷ 0x06 ∷ 0x04 ∷ 0x4D ∷ 0x6F ∷ 0x76 ∷ 0x65 ∷ 0x64 ∷ 0x90 ∷ 0x00 ∷ []) ∷ (0x91 ∷ 0x13 ∷ []) ∷ (0xD0 ∷ 0x11 ∷ 0x81 ∷ 0x03 ∷ 0x02 ∷ 0x21 ∷ 0x80 ∷ 0x82 ∷ 0x02 ∷ 0x81 ∷ 0x02 ∷ 0x8D ∷ 0x06 ∷ 0x04 ∷ 0x4D ∷ 0x6F ∷ 0x76 ∷ 0x65 ∷ 0x64 ∷ 0x90 ∷ 0x00 ∷ []) ∷ (0x90 ∷ 0x00 ∷ []) ∷ []
unfolding refused_if given and_given command_in fields_in instruction_tried carried_out file_outcome toolkit_outcome tried answer_of woken woken_boxes channel_tried keys_seen descriptor_in descriptors_in file_found telling status_told profile_taken command_fetched response_taken envelope_taken applet_installed applet_deleted profiled polled triggered enveloped fetched answered responded installed delete_carried told_one given_one caught_up wanted with_next_command driven trigger_order asks run_on run_of_row act address_digits row_from allowed allowed_event consulted tagged response_of value_in envelope_in envelope_of Reading.tag_at Reading.length_at Reading.value_at Reading.object_at Reading.outline_within Reading.outline_at Reading.template_of
one_after_the_other = refl

-- With channel 1 open FETCH is refused there, and STATUS tells there what is to be fetched.
on_another_channel : replies (card_with (row 0 1 0 (0x40 ∷ []) [] [] ∷ [])) (
    (0x00 ∷ 0x70 ∷ 0x00 ∷ 0x00 ∷ 0x01 ∷ [])
    ∷ (0x80 ∷ 0x10 ∷ 0x00 ∷ 0x00 ∷ 0x08 ∷ 0x29 ∷ 0x00 ∷ 0xBF ∷ 0x61 ∷ 0x71 ∷ 0x00 ∷ 0x00 ∷ 0x13 ∷ [])
    ∷ (0x81 ∷ 0x12 ∷ 0x00 ∷ 0x00 ∷ 0x10 ∷ [])
    ∷ (0x81 ∷ 0xF2 ∷ 0x00 ∷ 0x0C ∷ [])
    ∷ (0x82 ∷ 0xF2 ∷ 0x00 ∷ 0x0C ∷ [])
    ∷ [])
    ≡ (0x01 ∷ 0x90 ∷ 0x00 ∷ []) ∷ (0x91 ∷ 0x10 ∷ []) ∷ (0x68 ∷ 0x81 ∷ []) ∷ (0x91 ∷ 0x10 ∷ []) ∷ (0x68 ∷ 0x81 ∷ []) ∷ []
unfolding refused_if given and_given command_in fields_in instruction_tried carried_out file_outcome toolkit_outcome tried answer_of woken woken_boxes channel_tried keys_seen descriptor_in descriptors_in file_found telling status_told profile_taken command_fetched response_taken envelope_taken applet_installed applet_deleted profiled polled triggered enveloped fetched answered responded installed delete_carried told_one given_one caught_up wanted with_next_command driven trigger_order asks run_on run_of_row act address_digits row_from allowed allowed_event consulted tagged response_of value_in envelope_in envelope_of Reading.tag_at Reading.length_at Reading.value_at Reading.object_at Reading.outline_within Reading.outline_at Reading.template_of
on_another_channel = refl

-- A note that an applet took is kept over a reset.
abbrev asked_for_a_note : List (List ℕ)
asked_for_a_note =
    (0x80 ∷ 0x10 ∷ 0x00 ∷ 0x00 ∷ 0x08 ∷ 0x29 ∷ 0x00 ∷ 0xBF ∷ 0x61 ∷ 0x71 ∷ 0x00 ∷ 0x00 ∷ 0x13 ∷ [])
    ∷ (0x80 ∷ 0x12 ∷ 0x00 ∷ 0x00 ∷ 0x17 ∷ [])
    ∷ (0x80 ∷ 0x14 ∷ 0x00 ∷ 0x00 ∷ 0x11 ∷ 0x81 ∷ 0x03 ∷ 0x01 ∷ 0x23 ∷ 0x01 ∷ 0x82 ∷ 0x02 ∷ 0x82 ∷ 0x81 ∷ 0x83 ∷ 0x01 ∷ 0x00 ∷ 0x8D ∷ 0x03 ∷ 0x04 ∷ 0x41 ∷ 0x42 ∷ [])
    ∷ []

takes_a_note : replies (card_with (row 5 1 0 (0x40 ∷ []) [] [] ∷ [])) asked_for_a_note ≡ (0x91 ∷ 0x17 ∷ []) ∷ (0xD0 ∷ 0x15 ∷ 0x81 ∷ 0x03 ∷ 0x01 ∷ 0x23 ∷ 0x01 ∷ 0x82 ∷ 0x02 ∷ 0x81 ∷ 0x82 ∷ 0x8D ∷ 0x06 ∷ 0x04 ∷ 0x4E ∷ 0x6F ∷ 0x74 ∷ 0x65 ∷ 0x3F ∷ 0x91 ∷ 0x02 ∷ 0x00 ∷ 0x14 ∷ 0x90 ∷ 0x00 ∷ []) ∷ (0x90 ∷ 0x00 ∷ []) ∷ []
unfolding refused_if given and_given command_in fields_in instruction_tried carried_out file_outcome toolkit_outcome tried answer_of woken woken_boxes channel_tried keys_seen descriptor_in descriptors_in file_found telling status_told profile_taken command_fetched response_taken envelope_taken applet_installed applet_deleted profiled polled triggered enveloped fetched answered responded installed delete_carried told_one given_one caught_up wanted with_next_command driven trigger_order asks run_on run_of_row act address_digits row_from allowed allowed_event consulted tagged response_of value_in envelope_in envelope_of Reading.tag_at Reading.length_at Reading.value_at Reading.object_at Reading.outline_within Reading.outline_at Reading.template_of
takes_a_note = refl

keeps_a_note : replies (restarted (after (card_with (row 5 1 0 (0x40 ∷ []) [] [] ∷ [])) asked_for_a_note)) ((0x80 ∷ 0x10 ∷ 0x00 ∷ 0x00 ∷ 0x08 ∷ 0x29 ∷ 0x00 ∷ 0xBF ∷ 0x61 ∷ 0x71 ∷ 0x00 ∷ 0x00 ∷ 0x13 ∷ []) ∷ (0x80 ∷ 0x12 ∷ 0x00 ∷ 0x00 ∷ 0x10 ∷ []) ∷ []) ≡ (0x91 ∷ 0x10 ∷ []) ∷ (0xD0 ∷ 0x0E ∷ 0x81 ∷ 0x03 ∷ 0x01 ∷ 0x21 ∷ 0x80 ∷ 0x82 ∷ 0x02 ∷ 0x81 ∷ 0x02 ∷ 0x8D ∷ 0x03 ∷ 0x04 ∷ 0x41 ∷ 0x42 ∷ 0x90 ∷ 0x00 ∷ []) ∷ []
unfolding refused_if given and_given command_in fields_in instruction_tried carried_out file_outcome toolkit_outcome tried answer_of woken woken_boxes channel_tried keys_seen descriptor_in descriptors_in file_found telling status_told profile_taken command_fetched response_taken envelope_taken applet_installed applet_deleted profiled polled triggered enveloped fetched answered responded installed delete_carried told_one given_one caught_up wanted with_next_command driven trigger_order asks run_on run_of_row act address_digits row_from allowed allowed_event consulted tagged response_of value_in envelope_in envelope_of Reading.tag_at Reading.length_at Reading.value_at Reading.object_at Reading.outline_within Reading.outline_at Reading.template_of
keeps_a_note = refl

-- ---- what is committed

-- an applet that registers for three events, one after the other, when its menu item is selected
abbrev registering : CardState
registering = card_with (row 6 1 0 [] (0x54 ∷ []) (0x43 ∷ 0x07 ∷ 0x03 ∷ 0x43 ∷ 0x07 ∷ 0x04 ∷ 0x43 ∷ 0x07 ∷ 0x05 ∷ []) ∷ [])

abbrev selecting : List ℕ
selecting = (0x80 ∷ 0xC2 ∷ 0x00 ∷ 0x00 ∷ 0x09 ∷ 0xD3 ∷ 0x07 ∷ 0x82 ∷ 0x02 ∷ 0x01 ∷ 0x81 ∷ 0x90 ∷ 0x01 ∷ 0x07 ∷ [])

-- the codes that the row has in each state that the command passes
three_commits : map (λ state. map (λ each. each.codes) state.rows) (passed_of every registering selecting)
    ≡ ([] ∷ []) ∷ ((0x03 ∷ []) ∷ []) ∷ ((0x03 ∷ 0x04 ∷ []) ∷ []) ∷ ((0x03 ∷ 0x04 ∷ 0x05 ∷ []) ∷ []) ∷ []
unfolding refused_if given and_given command_in fields_in instruction_tried carried_out file_outcome toolkit_outcome tried answer_of woken woken_boxes channel_tried keys_seen descriptor_in descriptors_in file_found telling status_told profile_taken command_fetched response_taken envelope_taken applet_installed applet_deleted profiled polled triggered enveloped fetched answered responded installed delete_carried told_one given_one caught_up wanted with_next_command driven trigger_order asks run_on run_of_row act address_digits row_from allowed allowed_event consulted tagged response_of value_in envelope_in envelope_of Reading.tag_at Reading.length_at Reading.value_at Reading.object_at Reading.outline_within Reading.outline_at Reading.template_of
three_commits = refl

-- over each of them a card that woke has another command to be fetched: its menu, or the events
left_with : map (λ state. replies (woken state registering.boxes) ((0x80 ∷ 0x10 ∷ 0x00 ∷ 0x00 ∷ 0x08 ∷ 0x29 ∷ 0x00 ∷ 0xBF ∷ 0x61 ∷ 0x71 ∷ 0x00 ∷ 0x00 ∷ 0x13 ∷ []) ∷ [])) (passed_of every registering selecting)
    ≡ ((0x91 ∷ 0x15 ∷ []) ∷ []) ∷ ((0x91 ∷ 0x0E ∷ []) ∷ []) ∷ ((0x91 ∷ 0x0F ∷ []) ∷ []) ∷ ((0x91 ∷ 0x10 ∷ []) ∷ []) ∷ []
unfolding refused_if given and_given command_in fields_in instruction_tried carried_out file_outcome toolkit_outcome tried answer_of woken woken_boxes channel_tried keys_seen descriptor_in descriptors_in file_found telling status_told profile_taken command_fetched response_taken envelope_taken applet_installed applet_deleted profiled polled triggered enveloped fetched answered responded installed delete_carried told_one given_one caught_up wanted with_next_command driven trigger_order asks run_on run_of_row act address_digits row_from allowed allowed_event consulted tagged response_of value_in envelope_in envelope_of Reading.tag_at Reading.length_at Reading.value_at Reading.object_at Reading.outline_within Reading.outline_at Reading.template_of
left_with = refl

-- a row that is made takes the next sequence number, which rises; nothing else of the card changes
installed_for_good : passed_of every verified_card (0xF0 ∷ 0xE6 ∷ 0x02 ∷ 0x07 ∷ 0x03 ∷ 0x01 ∷ 0x40 ∷ 0x00 ∷ [])
    ≡ held_with [] ∷ record (held_with (row 7 2 9 (0x40 ∷ []) [] [] ∷ [])) { next_sequence = 10 } ∷ []
unfolding refused_if given and_given command_in fields_in instruction_tried carried_out file_outcome toolkit_outcome tried answer_of woken woken_boxes channel_tried keys_seen descriptor_in descriptors_in file_found telling status_told profile_taken command_fetched response_taken envelope_taken applet_installed applet_deleted profiled polled triggered enveloped fetched answered responded installed delete_carried told_one given_one caught_up wanted with_next_command driven trigger_order asks run_on run_of_row act address_digits row_from allowed allowed_event consulted tagged response_of value_in envelope_in envelope_of Reading.tag_at Reading.length_at Reading.value_at Reading.object_at Reading.outline_within Reading.outline_at Reading.template_of
installed_for_good = refl

-- and what is deleted leaves the others
deleted_for_good : passed_of every (record (card_with (row 0 1 0 (0x40 ∷ []) [] [] ∷ row 3 2 1 (0x03 ∷ []) [] [] ∷ [])) { verified = adm1_verified }) (0xF0 ∷ 0xE4 ∷ 0x00 ∷ 0x00 ∷ [])
    ≡ held_with (row 0 1 0 (0x40 ∷ []) [] [] ∷ row 3 2 1 (0x03 ∷ []) [] [] ∷ []) ∷ held_with (row 3 2 1 (0x03 ∷ []) [] [] ∷ []) ∷ []
unfolding refused_if given and_given command_in fields_in instruction_tried carried_out file_outcome toolkit_outcome tried answer_of woken woken_boxes channel_tried keys_seen descriptor_in descriptors_in file_found telling status_told profile_taken command_fetched response_taken envelope_taken applet_installed applet_deleted profiled polled triggered enveloped fetched answered responded installed delete_carried told_one given_one caught_up wanted with_next_command driven trigger_order asks run_on run_of_row act address_digits row_from allowed allowed_event consulted tagged response_of value_in envelope_in envelope_of Reading.tag_at Reading.length_at Reading.value_at Reading.object_at Reading.outline_within Reading.outline_at Reading.template_of
deleted_for_good = refl

-- a fault in the deletion leaves the applet, which is deleted then, or leaves neither its row nor its box
abbrev deleting : CardState
deleting = record (card_with (row 0 1 0 (0x40 ∷ []) [] [] ∷ [])) { verified = adm1_verified }

deleted_or_not : map (λ state. replies (woken state (boxes_left deleting.persistent.rows state.rows deleting.boxes)) ((0x00 ∷ 0x20 ∷ 0x00 ∷ 0x0A ∷ 0x08 ∷ 0x38 ∷ 0x38 ∷ 0x38 ∷ 0x38 ∷ 0x38 ∷ 0x38 ∷ 0x38 ∷ 0x38 ∷ []) ∷ (0xF0 ∷ 0xE4 ∷ 0x00 ∷ 0x00 ∷ []) ∷ (0xF0 ∷ 0xE6 ∷ 0x01 ∷ 0x00 ∷ 0x03 ∷ 0x01 ∷ 0x40 ∷ 0x00 ∷ []) ∷ [])) (passed_of every deleting (0xF0 ∷ 0xE4 ∷ 0x00 ∷ 0x00 ∷ []))
    ≡ ((0x90 ∷ 0x00 ∷ []) ∷ (0x90 ∷ 0x00 ∷ []) ∷ (0x6A ∷ 0x88 ∷ []) ∷ []) ∷ ((0x90 ∷ 0x00 ∷ []) ∷ (0x6A ∷ 0x88 ∷ []) ∷ (0x6A ∷ 0x88 ∷ []) ∷ []) ∷ []
unfolding refused_if given and_given command_in fields_in instruction_tried carried_out file_outcome toolkit_outcome tried answer_of woken woken_boxes channel_tried keys_seen pin_found presented pin_presented pin_verified descriptor_in descriptors_in file_found telling status_told profile_taken command_fetched response_taken envelope_taken applet_installed applet_deleted profiled polled triggered enveloped fetched answered responded installed delete_carried told_one given_one caught_up wanted with_next_command driven trigger_order asks run_on run_of_row act address_digits row_from allowed allowed_event consulted tagged response_of value_in envelope_in envelope_of Reading.tag_at Reading.length_at Reading.value_at Reading.object_at Reading.outline_within Reading.outline_at Reading.template_of
deleted_or_not = refl
