-- Commands to a small card, worked out from their bytes: what the card answers to each, one after the other.
use Rattle.std.proofs.Common.{◌≡◌, ℕ, Bool, true, List, [], ◌∷◌, ◌++◌, replicate, None, refl}
use Rattle.std.specs.Int.{to_be_bytes, w16}
use Rattle.list_laws.specs.Patches.{patched}
use Rattle.apdu_form.specs.Model.{command_in, fields_in}
use Rattle.card_state.specs.Changing.{with_file_changed}
use Rattle.card_state.specs.Persistent.{Files, Bytes, Records, File, Pin, Persistent}
use Rattle.card_state.specs.Soundness.{mf}
use Rattle.access_rules.specs.Objects.{object}
use Rattle.file_model.specs.Chains.{refused_if, given, and_given}
use Rattle.file_model.specs.Access.{keys_seen, arr_found, ruling_record, may}
use Rattle.file_model.specs.Binaries.{reading, binary_read, updating, binary_updated, binary_file, read_from, update_in}
use Rattle.file_model.specs.Fcp.{fcp}
use Rattle.file_model.specs.Records.{record_file, record_named, number_to_read, record_reading, record_read_from, record_read, sum_to_write, increasing, increase_in, increased}
use Rattle.file_model.specs.Files.{descriptor_in, descriptors_in, file_found}
use Rattle.file_model.specs.Holdings.{held_by}
use Rattle.file_model.specs.Outcomes.{addressed}
use Rattle.file_model.specs.Pins.{pin_found, presented, pin_presented, pin_verified}
use Rattle.file_model.specs.Selecting.{selecting, file_selected}
use Rattle.file_model.specs.Selections.{selection_of, chosen_by_identifier, chosen}
use Rattle.file_model.specs.Channels.{channel_tried}
use Rattle.file_model.specs.Commands.{contents_outcome, file_outcome}
use Rattle.toolkit_model.specs.Commands.{woken_boxes}
use Rattle.card_model.specs.Answers.{carried_out, tried, answer_of}
use Rattle.card_model.specs.Instructions.{instruction_tried}
use Rattle.card_model.specs.States.{CardState, woken}
use Rattle.card_model.specs.declared.instructions.Instruction.{Instruction}

-- ---- the card

abbrev pub number_file : File
number_file = record { number = 1; parent = 0; kind = 0x41; id = 0x2FE2; short = 2; life = 5; rule = None; place = 3968; size = 3; contents = Bytes (0x98 ∷ 0x10 ∷ 0x32 ∷ []) }

abbrev pub telecom_df : File
telecom_df = record { number = 2; parent = 0; kind = 0x78; id = 0x7F10; short = 0; life = 5; rule = None; place = 0; size = 0; contents = Files }

abbrev pub message_file : File
message_file = record { number = 3; parent = 2; kind = 0x41; id = 0x6F3C; short = 0; life = 5; rule = None; place = 3971; size = 2; contents = Bytes (0xFF ∷ 0xFF ∷ []) }

abbrev pub user_pin : Pin
user_pin = record { key = 0x01; is_enabled = true; tries = 3; unblock_tries = 10; value = replicate 8 0x31; unblock = replicate 8 0x32 }

abbrev pub held : Persistent
held = record { is_wide = true; files = mf ∷ number_file ∷ telecom_df ∷ message_file ∷ []; pins = user_pin ∷ []; rows = []; next_sequence = 0 }

abbrev pub first_card : CardState
first_card = woken held []

-- a card that knows every command
abbrev pub every : Instruction → Bool
every instruction = true

-- what is answered to commands, one after the other: the data and the status
abbrev pub replies : CardState → List (List ℕ) → List (List ℕ)
replies card [] = []
replies card (apdu ∷ more) =
    let answered = answer_of every card apdu in
    (answered.body ++ to_be_bytes w16 answered.status.0) ∷ replies answered.state more

-- ---- the form, the class, the channel, the instruction

in_order : replies first_card (
    (0x00 ∷ 0xA4 ∷ 0x00 ∷ 0x04 ∷ [])
    ∷ (0x00 ∷ 0xA4 ∷ 0x00 ∷ 0x0C ∷ 0x02 ∷ 0x6F ∷ 0xFF ∷ [])
    ∷ (0x00 ∷ 0xB0 ∷ 0x00 ∷ 0x00 ∷ 0x01 ∷ [])
    ∷ (0xA0 ∷ 0xA4 ∷ 0x00 ∷ 0x00 ∷ 0x02 ∷ 0x3F ∷ 0x00 ∷ [])
    ∷ (0x01 ∷ 0xA4 ∷ 0x00 ∷ 0x0C ∷ 0x02 ∷ 0x3F ∷ 0x00 ∷ [])
    ∷ (0x04 ∷ 0xA4 ∷ 0x00 ∷ 0x0C ∷ 0x02 ∷ 0x3F ∷ 0x00 ∷ [])
    ∷ (0x00 ∷ 0xFF ∷ 0x00 ∷ 0x00 ∷ [])
    ∷ (0x80 ∷ 0xA4 ∷ 0x00 ∷ 0x0C ∷ 0x02 ∷ 0x3F ∷ 0x00 ∷ [])
    ∷ (0x00 ∷ 0xA4 ∷ 0x00 ∷ 0x0C ∷ 0x00 ∷ 0x00 ∷ 0x00 ∷ [])
    ∷ [])
    ≡ (0x67 ∷ 0x00 ∷ []) ∷ (0x6A ∷ 0x82 ∷ []) ∷ (0x69 ∷ 0x86 ∷ []) ∷ (0x6E ∷ 0x00 ∷ []) ∷ (0x68 ∷ 0x81 ∷ []) ∷ (0x68 ∷ 0x82 ∷ []) ∷ (0x6D ∷ 0x00 ∷ []) ∷ (0x6E ∷ 0x00 ∷ []) ∷ (0x67 ∷ 0x00 ∷ []) ∷ []
unfolding refused_if given and_given command_in fields_in instruction_tried carried_out file_outcome contents_outcome tried answer_of woken woken_boxes file_selected chosen chosen_by_identifier descriptor_in descriptors_in file_found keys_seen addressed binary_file read_from binary_read
in_order = refl

-- two causes at once: secure messaging is told before the closed channel, and the closed channel before the instruction
earlier_cause : replies first_card (
    (0x07 ∷ 0xFF ∷ 0x00 ∷ 0x00 ∷ [])
    ∷ (0x03 ∷ 0xFF ∷ 0x00 ∷ 0x00 ∷ [])
    ∷ (0xF1 ∷ 0xFF ∷ 0x00 ∷ 0x00 ∷ 0x01 ∷ [])
    ∷ (0xF0 ∷ 0xA4 ∷ 0x0F ∷ 0x00 ∷ [])
    ∷ [])
    ≡ (0x68 ∷ 0x82 ∷ []) ∷ (0x68 ∷ 0x81 ∷ []) ∷ (0x6E ∷ 0x00 ∷ []) ∷ (0x6E ∷ 0x00 ∷ []) ∷ []
unfolding refused_if given and_given command_in fields_in instruction_tried carried_out tried answer_of woken woken_boxes
earlier_cause = refl

-- ---- channels

channels : replies first_card (
    (0x00 ∷ 0x70 ∷ 0x00 ∷ 0x00 ∷ 0x01 ∷ [])
    ∷ (0x01 ∷ 0xA4 ∷ 0x00 ∷ 0x0C ∷ 0x02 ∷ 0x2F ∷ 0xE2 ∷ [])
    ∷ (0x01 ∷ 0xB0 ∷ 0x00 ∷ 0x00 ∷ 0x02 ∷ [])
    ∷ (0x00 ∷ 0xB0 ∷ 0x00 ∷ 0x00 ∷ 0x01 ∷ [])
    ∷ (0x00 ∷ 0x70 ∷ 0x00 ∷ 0x00 ∷ 0x01 ∷ [])
    ∷ (0x00 ∷ 0x70 ∷ 0x00 ∷ 0x00 ∷ 0x00 ∷ [])
    ∷ (0x00 ∷ 0x70 ∷ 0x00 ∷ 0x00 ∷ 0x01 ∷ [])
    ∷ (0x00 ∷ 0x70 ∷ 0x80 ∷ 0x01 ∷ [])
    ∷ (0x01 ∷ 0xB0 ∷ 0x00 ∷ 0x00 ∷ 0x02 ∷ [])
    ∷ (0x00 ∷ 0x70 ∷ 0x80 ∷ 0x01 ∷ [])
    ∷ [])
    ≡ (0x01 ∷ 0x90 ∷ 0x00 ∷ []) ∷ (0x90 ∷ 0x00 ∷ []) ∷ (0x98 ∷ 0x10 ∷ 0x90 ∷ 0x00 ∷ []) ∷ (0x69 ∷ 0x86 ∷ []) ∷ (0x02 ∷ 0x90 ∷ 0x00 ∷ []) ∷ (0x03 ∷ 0x90 ∷ 0x00 ∷ []) ∷ (0x6A ∷ 0x81 ∷ []) ∷ (0x90 ∷ 0x00 ∷ []) ∷ (0x68 ∷ 0x81 ∷ []) ∷ (0x69 ∷ 0x85 ∷ []) ∷ []
unfolding refused_if given and_given command_in fields_in instruction_tried carried_out file_outcome contents_outcome tried answer_of woken woken_boxes channel_tried file_selected selecting selection_of chosen chosen_by_identifier descriptor_in descriptors_in file_found keys_seen addressed arr_found ruling_record may held_by reading binary_file read_from binary_read
channels = refl

-- a channel that is opened from another has its DF, and no other channel has
df_of_the_opener : replies first_card (
    (0x00 ∷ 0x70 ∷ 0x00 ∷ 0x00 ∷ 0x01 ∷ [])
    ∷ (0x01 ∷ 0xA4 ∷ 0x00 ∷ 0x0C ∷ 0x02 ∷ 0x7F ∷ 0x10 ∷ [])
    ∷ (0x01 ∷ 0x70 ∷ 0x00 ∷ 0x00 ∷ 0x01 ∷ [])
    ∷ (0x02 ∷ 0xA4 ∷ 0x00 ∷ 0x0C ∷ 0x02 ∷ 0x6F ∷ 0x3C ∷ [])
    ∷ (0x00 ∷ 0xA4 ∷ 0x00 ∷ 0x0C ∷ 0x02 ∷ 0x6F ∷ 0x3C ∷ [])
    ∷ [])
    ≡ (0x01 ∷ 0x90 ∷ 0x00 ∷ []) ∷ (0x90 ∷ 0x00 ∷ []) ∷ (0x02 ∷ 0x90 ∷ 0x00 ∷ []) ∷ (0x90 ∷ 0x00 ∷ []) ∷ (0x6A ∷ 0x82 ∷ []) ∷ []
unfolding refused_if given and_given command_in fields_in instruction_tried carried_out file_outcome tried answer_of woken woken_boxes channel_tried file_selected selecting selection_of chosen chosen_by_identifier descriptor_in descriptors_in file_found
df_of_the_opener = refl

-- P1 and P2 come before the length, and the length before the state
manage_channel_refused : replies first_card (
    (0x00 ∷ 0x70 ∷ 0x80 ∷ 0x00 ∷ 0x01 ∷ 0xAA ∷ [])
    ∷ (0x00 ∷ 0x70 ∷ 0x80 ∷ 0x01 ∷ 0x01 ∷ 0xAA ∷ [])
    ∷ (0x00 ∷ 0x70 ∷ 0x00 ∷ 0x00 ∷ [])
    ∷ (0x00 ∷ 0x70 ∷ 0x00 ∷ 0x00 ∷ 0x02 ∷ [])
    ∷ [])
    ≡ (0x6A ∷ 0x86 ∷ []) ∷ (0x67 ∷ 0x00 ∷ []) ∷ (0x67 ∷ 0x00 ∷ []) ∷ (0x67 ∷ 0x00 ∷ []) ∷ []
unfolding refused_if given and_given command_in fields_in instruction_tried carried_out tried answer_of woken woken_boxes channel_tried
manage_channel_refused = refl

-- ---- a command that changes what the card holds

update_and_read : replies first_card (
    (0x00 ∷ 0xD6 ∷ 0x82 ∷ 0x01 ∷ 0x01 ∷ 0xAA ∷ [])
    ∷ (0x00 ∷ 0xB0 ∷ 0x00 ∷ 0x00 ∷ 0x00 ∷ [])
    ∷ (0x00 ∷ 0x20 ∷ 0x00 ∷ 0x01 ∷ 0x08 ∷ 0x31 ∷ 0x31 ∷ 0x31 ∷ 0x31 ∷ 0x31 ∷ 0x31 ∷ 0x31 ∷ 0x30 ∷ [])
    ∷ (0x00 ∷ 0x20 ∷ 0x00 ∷ 0x01 ∷ 0x00 ∷ [])
    ∷ [])
    ≡ (0x90 ∷ 0x00 ∷ []) ∷ (0x98 ∷ 0xAA ∷ 0x32 ∷ 0x90 ∷ 0x00 ∷ []) ∷ (0x63 ∷ 0xC2 ∷ []) ∷ (0x63 ∷ 0xC2 ∷ []) ∷ []
unfolding refused_if given and_given command_in fields_in instruction_tried carried_out file_outcome contents_outcome tried answer_of woken woken_boxes descriptor_in descriptors_in file_found keys_seen addressed arr_found ruling_record may held_by reading binary_file read_from binary_read updating update_in binary_updated with_file_changed patched pin_found presented pin_presented pin_verified
update_and_read = refl

-- ---- Le

-- of the FCP two bytes are answered
le_cuts : replies first_card ((0x00 ∷ 0xA4 ∷ 0x00 ∷ 0x04 ∷ 0x02 ∷ 0x2F ∷ 0xE2 ∷ 0x02 ∷ []) ∷ []) ≡ (0x62 ∷ 0x12 ∷ 0x90 ∷ 0x00 ∷ []) ∷ []
unfolding object refused_if given and_given command_in fields_in instruction_tried carried_out file_outcome tried answer_of woken woken_boxes file_selected selecting fcp selection_of chosen chosen_by_identifier descriptor_in descriptors_in file_found
le_cuts = refl

-- of the sum and what was added, too
le_cuts_a_sum : replies (woken (record held { files = mf ∷ record number_file { kind = 0x46; contents = Records ((0x00 ∷ 0x00 ∷ 0x04 ∷ []) ∷ []) } ∷ [] }) []) ((0x80 ∷ 0x32 ∷ 0x82 ∷ 0x00 ∷ 0x01 ∷ 0x02 ∷ 0x02 ∷ []) ∷ (0x00 ∷ 0xB2 ∷ 0x01 ∷ 0x04 ∷ 0x00 ∷ []) ∷ [])
    ≡ (0x00 ∷ 0x00 ∷ 0x90 ∷ 0x00 ∷ []) ∷ (0x00 ∷ 0x00 ∷ 0x06 ∷ 0x90 ∷ 0x00 ∷ []) ∷ []
unfolding refused_if given and_given command_in fields_in instruction_tried carried_out file_outcome contents_outcome tried answer_of woken woken_boxes descriptor_in descriptors_in file_found keys_seen addressed arr_found ruling_record may held_by with_file_changed record_file sum_to_write increasing increase_in increased record_named record_reading number_to_read record_read_from record_read
le_cuts_a_sum = refl
