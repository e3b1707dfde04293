-- Files that are made, resized and deleted by commands to a small card, worked out from their bytes: what the card answers to each,
-- one after the other.
use Rattle.std.proofs.Common.{◌≡◌, ℕ, true, false, List, [], ◌∷◌, ◌++◌, map, replicate, None, refl}
use Rattle.apdu_form.specs.Model.{command_in, fields_in}
use Rattle.card_state.specs.Persistent.{Contents, Bytes, Records, File, Pin, Persistent}
use Rattle.card_state.specs.Soundness.{mf}
use Rattle.access_rules.specs.Objects.{object}
use Rattle.file_model.specs.Access.{keys_seen, arr_found, ruling_record, may}
use Rattle.file_model.specs.Binaries.{reading, binary_read, binary_file, read_from}
use Rattle.file_model.specs.Chains.{refused_if, given, and_given}
use Rattle.file_model.specs.Files.{descriptor_in, descriptors_in, file_found}
use Rattle.file_model.specs.Holdings.{held_by}
use Rattle.file_model.specs.Outcomes.{addressed}
use Rattle.file_model.specs.Pins.{pin_found, presented, pin_presented, pin_verified}
use Rattle.file_model.specs.Selecting.{selecting, file_selected}
use Rattle.file_model.specs.Selections.{selection_of, chosen_by_identifier, chosen}
use Rattle.file_model.specs.Rooms.{room_at, free_number}
use Rattle.file_model.specs.Templates.{template, new_file_told, asked_in}
use Rattle.file_model.specs.Creating.{creating, created}
use Rattle.file_model.specs.Deleting.{deleting, deleted}
use Rattle.file_model.specs.Resizing.{resizing, resized}
use Rattle.file_model.specs.Channels.{channel_tried}
use Rattle.file_model.specs.Commands.{contents_outcome, file_outcome}
use Rattle.file_model.specs.TreeCommands.{tree_outcome}
use Rattle.toolkit_model.specs.Commands.{woken_boxes}
use Rattle.card_model.specs.Answers.{carried_out, tried, answer_of, passed_of}
use Rattle.card_model.specs.Instructions.{instruction_tried}
use Rattle.card_model.specs.Laws.{is_of_tree_named}
use Rattle.card_model.specs.States.{CardState, woken}
use Rattle.card_model.specs.Toolkit.{applet_installed, applet_deleted, toolkit_outcome}
use Rattle.card_model.proofs.worked.Commands.{every, replies}

-- ---- a card with three EFs, of 10, 8 and 9 bytes

abbrev ef : ℕ → ℕ → ℕ → ℕ → ℕ → ℕ → Contents → File
ef number kind id short place size contents = record { number = number; parent = 0; kind = kind; id = id; short = short; life = 5; rule = None; place = place; size = size; contents = contents }

abbrev three : List File
three =
    mf
    ∷ ef 1 0x41 0x2FE2 2 3968 10 (Bytes (0x98 ∷ 0x10 ∷ 0x10 ∷ 0x32 ∷ 0x54 ∷ 0x76 ∷ 0x98 ∷ 0x10 ∷ 0x32 ∷ 0x54 ∷ []))
    ∷ ef 2 0x42 0x6F3A 1 3978 8 (Records ((0x41 ∷ 0xFF ∷ 0xFF ∷ 0xFF ∷ []) ∷ (0x42 ∷ 0xFF ∷ 0xFF ∷ 0xFF ∷ []) ∷ []))
    ∷ ef 3 0x46 0x6F39 3 3986 9 (Records (replicate 3 (replicate 3 0xFF)))
    ∷ []

abbrev adm1_pin : Pin
adm1_pin = record { key = 0x0A; is_enabled = true; tries = 3; unblock_tries = 10; value = replicate 8 0x38; unblock = replicate 8 0x00 }

abbrev held_with : List File → Persistent
held_with files = record { is_wide = true; files = files; pins = adm1_pin ∷ []; rows = []; next_sequence = 0 }

abbrev card_with : List File → CardState
card_with files = woken (held_with files) []

abbrev first_card : CardState
first_card = card_with three

-- ---- a file of four bytes

-- it is made and read, is there then, grows, goes, and is found no more
a_file_comes_and_goes : replies first_card (
    (0x00 ∷ 0x20 ∷ 0x00 ∷ 0x0A ∷ 0x08 ∷ 0x38 ∷ 0x38 ∷ 0x38 ∷ 0x38 ∷ 0x38 ∷ 0x38 ∷ 0x38 ∷ 0x38 ∷ [])
    ∷ (0x00 ∷ 0xE0 ∷ 0x00 ∷ 0x00 ∷ 0x10 ∷ 0x62 ∷ 0x0E ∷ 0x82 ∷ 0x02 ∷ 0x41 ∷ 0x21 ∷ 0x83 ∷ 0x02 ∷ 0x6F ∷ 0x50 ∷ 0x80 ∷ 0x02 ∷ 0x00 ∷ 0x04 ∷ 0x88 ∷ 0x00 ∷ [])
    ∷ (0x00 ∷ 0xB0 ∷ 0x00 ∷ 0x00 ∷ 0x04 ∷ [])
    ∷ (0x00 ∷ 0xE0 ∷ 0x00 ∷ 0x00 ∷ 0x10 ∷ 0x62 ∷ 0x0E ∷ 0x82 ∷ 0x02 ∷ 0x41 ∷ 0x21 ∷ 0x83 ∷ 0x02 ∷ 0x6F ∷ 0x50 ∷ 0x80 ∷ 0x02 ∷ 0x00 ∷ 0x04 ∷ 0x88 ∷ 0x00 ∷ [])
    ∷ (0x80 ∷ 0xD4 ∷ 0x00 ∷ 0x00 ∷ 0x04 ∷ 0x6F ∷ 0x50 ∷ 0x00 ∷ 0x06 ∷ [])
    ∷ (0x00 ∷ 0xE4 ∷ 0x00 ∷ 0x00 ∷ 0x02 ∷ 0x6F ∷ 0x50 ∷ [])
    ∷ (0x00 ∷ 0xA4 ∷ 0x00 ∷ 0x0C ∷ 0x02 ∷ 0x6F ∷ 0x50 ∷ [])
    ∷ [])
    ≡ (0x90 ∷ 0x00 ∷ []) ∷ (0x90 ∷ 0x00 ∷ []) ∷ (0xFF ∷ 0xFF ∷ 0xFF ∷ 0xFF ∷ 0x90 ∷ 0x00 ∷ []) ∷ (0x6A ∷ 0x89 ∷ []) ∷ (0x90 ∷ 0x00 ∷ []) ∷ (0x90 ∷ 0x00 ∷ []) ∷ (0x6A ∷ 0x82 ∷ []) ∷ []
unfolding refused_if given and_given command_in fields_in instruction_tried carried_out file_outcome contents_outcome tree_outcome tried answer_of woken woken_boxes channel_tried keys_seen pin_found presented pin_presented pin_verified addressed arr_found ruling_record may held_by reading binary_file read_from binary_read file_selected selecting selection_of chosen chosen_by_identifier descriptor_in descriptors_in file_found created creating deleted deleting resized resizing asked_in new_file_told template object room_at free_number
a_file_comes_and_goes = refl

-- it is deleted on another channel than that which has it, where no file is selected then
it_goes_from_the_other_channel : replies first_card (
    (0x00 ∷ 0x20 ∷ 0x00 ∷ 0x0A ∷ 0x08 ∷ 0x38 ∷ 0x38 ∷ 0x38 ∷ 0x38 ∷ 0x38 ∷ 0x38 ∷ 0x38 ∷ 0x38 ∷ [])
    ∷ (0x00 ∷ 0x70 ∷ 0x00 ∷ 0x00 ∷ 0x01 ∷ [])
    ∷ (0x01 ∷ 0xA4 ∷ 0x00 ∷ 0x0C ∷ 0x02 ∷ 0x2F ∷ 0xE2 ∷ [])
    ∷ (0x00 ∷ 0xE4 ∷ 0x00 ∷ 0x00 ∷ 0x02 ∷ 0x2F ∷ 0xE2 ∷ [])
    ∷ (0x01 ∷ 0xB0 ∷ 0x00 ∷ 0x00 ∷ 0x01 ∷ [])
    ∷ [])
    ≡ (0x90 ∷ 0x00 ∷ []) ∷ (0x01 ∷ 0x90 ∷ 0x00 ∷ []) ∷ (0x90 ∷ 0x00 ∷ []) ∷ (0x90 ∷ 0x00 ∷ []) ∷ (0x69 ∷ 0x86 ∷ []) ∷ []
unfolding refused_if given and_given command_in fields_in instruction_tried carried_out file_outcome contents_outcome tree_outcome tried answer_of woken woken_boxes channel_tried keys_seen pin_found presented pin_presented pin_verified addressed arr_found ruling_record may held_by reading binary_file read_from binary_read file_selected selecting selection_of chosen chosen_by_identifier descriptor_in descriptors_in file_found created creating deleted deleting resized resizing asked_in new_file_told template object room_at free_number
it_goes_from_the_other_channel = refl

-- ---- a DF

abbrev with_df : CardState
with_df = card_with (three ++ record mf { number = 4; parent = 0; id = 0x7F20 } ∷ [])

-- a child of the MF
a_df_goes : replies with_df (
    (0x00 ∷ 0x20 ∷ 0x00 ∷ 0x0A ∷ 0x08 ∷ 0x38 ∷ 0x38 ∷ 0x38 ∷ 0x38 ∷ 0x38 ∷ 0x38 ∷ 0x38 ∷ 0x38 ∷ [])
    ∷ (0x00 ∷ 0xE4 ∷ 0x00 ∷ 0x00 ∷ 0x02 ∷ 0x7F ∷ 0x20 ∷ [])
    ∷ (0x00 ∷ 0xA4 ∷ 0x00 ∷ 0x0C ∷ 0x02 ∷ 0x7F ∷ 0x20 ∷ [])
    ∷ [])
    ≡ (0x90 ∷ 0x00 ∷ []) ∷ (0x90 ∷ 0x00 ∷ []) ∷ (0x6A ∷ 0x82 ∷ []) ∷ []
unfolding refused_if given and_given command_in fields_in instruction_tried carried_out file_outcome contents_outcome tree_outcome tried answer_of woken woken_boxes channel_tried keys_seen pin_found presented pin_presented pin_verified addressed arr_found ruling_record may held_by reading binary_file read_from binary_read file_selected selecting selection_of chosen chosen_by_identifier descriptor_in descriptors_in file_found created creating deleted deleting resized resizing asked_in new_file_told template object room_at free_number
a_df_goes = refl

-- it stays while a channel has it as its current DF
a_df_in_use_stays : replies with_df (
    (0x00 ∷ 0x20 ∷ 0x00 ∷ 0x0A ∷ 0x08 ∷ 0x38 ∷ 0x38 ∷ 0x38 ∷ 0x38 ∷ 0x38 ∷ 0x38 ∷ 0x38 ∷ 0x38 ∷ [])
    ∷ (0x00 ∷ 0x70 ∷ 0x00 ∷ 0x00 ∷ 0x01 ∷ [])
    ∷ (0x01 ∷ 0xA4 ∷ 0x00 ∷ 0x0C ∷ 0x02 ∷ 0x7F ∷ 0x20 ∷ [])
    ∷ (0x00 ∷ 0xE4 ∷ 0x00 ∷ 0x00 ∷ 0x02 ∷ 0x7F ∷ 0x20 ∷ [])
    ∷ (0x01 ∷ 0xA4 ∷ 0x00 ∷ 0x0C ∷ 0x02 ∷ 0x3F ∷ 0x00 ∷ [])
    ∷ (0x00 ∷ 0xE4 ∷ 0x00 ∷ 0x00 ∷ 0x02 ∷ 0x7F ∷ 0x20 ∷ [])
    ∷ [])
    ≡ (0x90 ∷ 0x00 ∷ []) ∷ (0x01 ∷ 0x90 ∷ 0x00 ∷ []) ∷ (0x90 ∷ 0x00 ∷ []) ∷ (0x69 ∷ 0x85 ∷ []) ∷ (0x90 ∷ 0x00 ∷ []) ∷ (0x90 ∷ 0x00 ∷ []) ∷ []
unfolding refused_if given and_given command_in fields_in instruction_tried carried_out file_outcome contents_outcome tree_outcome tried answer_of woken woken_boxes channel_tried keys_seen pin_found presented pin_presented pin_verified addressed arr_found ruling_record may held_by reading binary_file read_from binary_read file_selected selecting selection_of chosen chosen_by_identifier descriptor_in descriptors_in file_found created creating deleted deleting resized resizing asked_in new_file_told template object room_at free_number
a_df_in_use_stays = refl

-- and where the key of the administrator was not presented
a_df_is_kept : replies with_df (
    (0x00 ∷ 0xE4 ∷ 0x00 ∷ 0x00 ∷ 0x02 ∷ 0x7F ∷ 0x20 ∷ [])
    ∷ (0x00 ∷ 0xE0 ∷ 0x00 ∷ 0x00 ∷ 0x10 ∷ 0x62 ∷ 0x0E ∷ 0x82 ∷ 0x02 ∷ 0x41 ∷ 0x21 ∷ 0x83 ∷ 0x02 ∷ 0x6F ∷ 0x50 ∷ 0x80 ∷ 0x02 ∷ 0x00 ∷ 0x04 ∷ 0x88 ∷ 0x00 ∷ [])
    ∷ (0x80 ∷ 0xD4 ∷ 0x00 ∷ 0x00 ∷ 0x04 ∷ 0x2F ∷ 0xE2 ∷ 0x00 ∷ 0x06 ∷ [])
    ∷ [])
    ≡ (0x69 ∷ 0x82 ∷ []) ∷ (0x69 ∷ 0x82 ∷ []) ∷ (0x69 ∷ 0x82 ∷ []) ∷ []
unfolding refused_if given and_given command_in fields_in instruction_tried carried_out file_outcome contents_outcome tree_outcome tried answer_of woken woken_boxes channel_tried keys_seen pin_found presented pin_presented pin_verified addressed arr_found ruling_record may held_by reading binary_file read_from binary_read file_selected selecting selection_of chosen chosen_by_identifier descriptor_in descriptors_in file_found created creating deleted deleting resized resizing asked_in new_file_told template object room_at free_number
a_df_is_kept = refl

-- ---- no room

-- the files of this card have all of the 59,520 bytes that there are
abbrev full : CardState
full = card_with (mf ∷ ef 1 0x41 0x6F01 0 3968 32767 (Bytes []) ∷ ef 2 0x41 0x6F02 0 36735 26753 (Bytes []) ∷ [])

-- a file of four bytes more has no room
no_room : replies full (
    (0x00 ∷ 0x20 ∷ 0x00 ∷ 0x0A ∷ 0x08 ∷ 0x38 ∷ 0x38 ∷ 0x38 ∷ 0x38 ∷ 0x38 ∷ 0x38 ∷ 0x38 ∷ 0x38 ∷ [])
    ∷ (0x00 ∷ 0xE0 ∷ 0x00 ∷ 0x00 ∷ 0x10 ∷ 0x62 ∷ 0x0E ∷ 0x82 ∷ 0x02 ∷ 0x41 ∷ 0x21 ∷ 0x83 ∷ 0x02 ∷ 0x6F ∷ 0x50 ∷ 0x80 ∷ 0x02 ∷ 0x00 ∷ 0x04 ∷ 0x88 ∷ 0x00 ∷ [])
    ∷ [])
    ≡ (0x90 ∷ 0x00 ∷ []) ∷ (0x6A ∷ 0x84 ∷ []) ∷ []
unfolding refused_if given and_given command_in fields_in instruction_tried carried_out file_outcome contents_outcome tree_outcome tried answer_of woken woken_boxes channel_tried keys_seen pin_found presented pin_presented pin_verified addressed arr_found ruling_record may held_by reading binary_file read_from binary_read file_selected selecting selection_of chosen chosen_by_identifier descriptor_in descriptors_in file_found created creating deleted deleting resized resizing asked_in new_file_told template object room_at free_number
no_room = refl

-- ---- classes

-- two commands have one instruction byte, in two classes; in another class there is none, and in no class where no command has the byte
told_by_class : replies first_card (
    (0x00 ∷ 0xE4 ∷ 0x00 ∷ 0x00 ∷ 0x02 ∷ 0x2F ∷ 0xE2 ∷ [])
    ∷ (0xF0 ∷ 0xE4 ∷ 0x00 ∷ 0x00 ∷ [])
    ∷ (0x80 ∷ 0xE4 ∷ 0x00 ∷ 0x00 ∷ 0x02 ∷ 0x2F ∷ 0xE2 ∷ [])
    ∷ (0x00 ∷ 0xD4 ∷ 0x00 ∷ 0x00 ∷ 0x04 ∷ 0x2F ∷ 0xE2 ∷ 0x00 ∷ 0x06 ∷ [])
    ∷ (0x80 ∷ 0xE0 ∷ 0x00 ∷ 0x00 ∷ [])
    ∷ (0x00 ∷ 0xE6 ∷ 0x00 ∷ 0x00 ∷ 0x00 ∷ [])
    ∷ (0x00 ∷ 0xD5 ∷ 0x00 ∷ 0x00 ∷ 0x00 ∷ [])
    ∷ [])
    ≡ (0x69 ∷ 0x82 ∷ []) ∷ (0x69 ∷ 0x82 ∷ []) ∷ (0x6E ∷ 0x00 ∷ []) ∷ (0x6E ∷ 0x00 ∷ []) ∷ (0x6E ∷ 0x00 ∷ []) ∷ (0x6E ∷ 0x00 ∷ []) ∷ (0x6D ∷ 0x00 ∷ []) ∷ []
unfolding refused_if given and_given command_in fields_in instruction_tried carried_out file_outcome contents_outcome toolkit_outcome tree_outcome tried answer_of woken woken_boxes channel_tried keys_seen pin_found presented pin_presented pin_verified addressed arr_found ruling_record may held_by reading binary_file read_from binary_read file_selected selecting selection_of chosen chosen_by_identifier descriptor_in descriptors_in file_found created creating deleted deleting resized resizing asked_in new_file_told template object room_at free_number applet_installed applet_deleted
told_by_class = refl

-- a command on the tree of files is named by its class, on any channel, and its instruction byte; in another class the byte names none
named_by_class : map is_of_tree_named (
    (0x00 ∷ 0xE0 ∷ 0x00 ∷ 0x00 ∷ [])
    ∷ (0x03 ∷ 0xE4 ∷ 0x00 ∷ 0x00 ∷ [])
    ∷ (0x81 ∷ 0xD4 ∷ 0x00 ∷ 0x00 ∷ [])
    ∷ (0xF0 ∷ 0xE4 ∷ 0x00 ∷ 0x00 ∷ [])
    ∷ (0x80 ∷ 0xE4 ∷ 0x00 ∷ 0x00 ∷ [])
    ∷ (0x00 ∷ 0xD4 ∷ 0x00 ∷ 0x00 ∷ [])
    ∷ [])
    ≡ true ∷ true ∷ true ∷ false ∷ false ∷ false ∷ []
named_by_class = refl

-- ---- what is committed

-- the file, and nothing else, in one commit
one_commit : map (λ state. state.files) (passed_of every (record first_card { verified = record { pin1 = false; pin2 = false; adm1 = true } }) (0x00 ∷ 0xE0 ∷ 0x00 ∷ 0x00 ∷ 0x10 ∷ 0x62 ∷ 0x0E ∷ 0x82 ∷ 0x02 ∷ 0x41 ∷ 0x21 ∷ 0x83 ∷ 0x02 ∷ 0x6F ∷ 0x50 ∷ 0x80 ∷ 0x02 ∷ 0x00 ∷ 0x04 ∷ 0x88 ∷ 0x00 ∷ []))
    ≡ three ∷ (three ++ ef 4 0x41 0x6F50 0 3995 4 (Bytes (replicate 4 0xFF)) ∷ []) ∷ []
unfolding refused_if given and_given command_in fields_in instruction_tried carried_out file_outcome contents_outcome tree_outcome tried answer_of woken woken_boxes channel_tried keys_seen pin_found presented pin_presented pin_verified addressed arr_found ruling_record may held_by reading binary_file read_from binary_read file_selected selecting selection_of chosen chosen_by_identifier descriptor_in descriptors_in file_found created creating deleted deleting resized resizing asked_in new_file_told template object room_at free_number
one_commit = refl
