-- READ BINARY and UPDATE BINARY, worked out: the bytes of commands and what they answer.
use Rattle.std.proofs.Common.{◌≡◌, [], ◌∷◌, Some, None, refl}
use Rattle.list_laws.specs.Patches.{patched}
use Rattle.card_state.specs.Changes.{PutBytes}
use Rattle.card_state.specs.Changing.{with_file_changed}
use Rattle.access_rules.specs.Reading.{length_in, part_of, part_in, key_truth, part_truth, condition_in, group_truth, mode_of, named_truth, pair_in, pairs_truth, grants}
use Rattle.file_model.specs.Chains.{refused_if, given, and_given}
use Rattle.file_model.specs.Files.{descriptor_in, descriptors_in, file_found}
use Rattle.file_model.specs.declared.selections.TheConstants.Selection.{AT_START}
use Rattle.file_model.specs.Holdings.{held_by}
use Rattle.file_model.specs.Access.{arr_found, ruling_record, may}
use Rattle.file_model.specs.Outcomes.{addressed}
use Rattle.file_model.specs.Binaries.{binary_file, reading, read_from, binary_read, updating, update_in, binary_updated}
use Rattle.file_model.proofs.worked.Cards.{card, with_iccid, quiet_card, ruled_card, on_ef, nothing_verified, pin1_verified, command, answered, committed, refused}

-- ---- READ BINARY

-- 00B0000A02 answers 6B00
past_the_end : binary_read card nothing_verified (on_ef 1 None) (command 0x00 0xB0 0x00 0x0A [] (Some 2)) ≡ refused 0x6B00
unfolding refused_if given and_given descriptor_in descriptors_in file_found held_by arr_found ruling_record may grants pairs_truth pair_in named_truth mode_of group_truth condition_in part_truth key_truth part_in part_of length_in addressed binary_file reading read_from binary_read
past_the_end = refl

-- fewer bytes than were asked for: 00B0000902 answers 546282
to_the_end : binary_read card nothing_verified (on_ef 1 None) (command 0x00 0xB0 0x00 0x09 [] (Some 2)) ≡ answered (0x54 ∷ []) 0x6282 (on_ef 1 None)
unfolding refused_if given and_given descriptor_in descriptors_in file_found held_by arr_found ruling_record may grants pairs_truth pair_in named_truth mode_of group_truth condition_in part_truth key_truth part_in part_of length_in addressed binary_file reading read_from binary_read
to_the_end = refl

-- 00B0000000 answers 981010325476981032549000
all_bytes : binary_read card nothing_verified (on_ef 1 None) (command 0x00 0xB0 0x00 0x00 [] (Some 256)) ≡ answered (0x98 ∷ 0x10 ∷ 0x10 ∷ 0x32 ∷ 0x54 ∷ 0x76 ∷ 0x98 ∷ 0x10 ∷ 0x32 ∷ 0x54 ∷ []) 0x9000 (on_ef 1 None)
unfolding refused_if given and_given descriptor_in descriptors_in file_found held_by arr_found ruling_record may grants pairs_truth pair_in named_truth mode_of group_truth condition_in part_truth key_truth part_in part_of length_in addressed binary_file reading read_from binary_read
all_bytes = refl

-- 00B0820802 answers 32549000
by_short_identifier : binary_read card nothing_verified AT_START (command 0x00 0xB0 0x82 0x08 [] (Some 2)) ≡ answered (0x32 ∷ 0x54 ∷ []) 0x9000 (on_ef 1 None)
unfolding refused_if given and_given descriptor_in descriptors_in file_found held_by arr_found ruling_record may grants pairs_truth pair_in named_truth mode_of group_truth condition_in part_truth key_truth part_in part_of length_in addressed binary_file reading read_from binary_read
by_short_identifier = refl

-- 00B0000001 answers 6986
no_current_ef : binary_read card nothing_verified AT_START (command 0x00 0xB0 0x00 0x00 [] (Some 1)) ≡ refused 0x6986
unfolding refused_if given and_given descriptor_in descriptors_in file_found held_by arr_found ruling_record may grants pairs_truth pair_in named_truth mode_of group_truth condition_in part_truth key_truth part_in part_of length_in addressed binary_file reading read_from binary_read
no_current_ef = refl

-- 00B0840001 answers 6A82
no_such_short_identifier : binary_read card nothing_verified (on_ef 1 None) (command 0x00 0xB0 0x84 0x00 [] (Some 1)) ≡ refused 0x6A82
unfolding refused_if given and_given descriptor_in descriptors_in file_found held_by arr_found ruling_record may grants pairs_truth pair_in named_truth mode_of group_truth condition_in part_truth key_truth part_in part_of length_in addressed binary_file reading read_from binary_read
no_such_short_identifier = refl

-- 00B0000001 answers 6981
records_are_no_bytes : binary_read card nothing_verified (on_ef 2 None) (command 0x00 0xB0 0x00 0x00 [] (Some 1)) ≡ refused 0x6981
unfolding refused_if given and_given descriptor_in descriptors_in file_found held_by arr_found ruling_record may grants pairs_truth pair_in named_truth mode_of group_truth condition_in part_truth key_truth part_in part_of length_in addressed binary_file reading read_from binary_read
records_are_no_bytes = refl

-- 00B0000001 answers 6985
a_deactivated_file : binary_read quiet_card nothing_verified (on_ef 1 None) (command 0x00 0xB0 0x00 0x00 [] (Some 1)) ≡ refused 0x6985
unfolding refused_if given and_given descriptor_in descriptors_in file_found held_by arr_found ruling_record may grants pairs_truth pair_in named_truth mode_of group_truth condition_in part_truth key_truth part_in part_of length_in addressed binary_file reading read_from binary_read
a_deactivated_file = refl

-- 00B0870004 answers 6982
pin_1_is_wanted : binary_read ruled_card nothing_verified AT_START (command 0x00 0xB0 0x87 0x00 [] (Some 4)) ≡ refused 0x6982
unfolding refused_if given and_given descriptor_in descriptors_in file_found held_by arr_found ruling_record may grants pairs_truth pair_in named_truth mode_of group_truth condition_in part_truth key_truth part_in part_of length_in addressed binary_file reading read_from binary_read
pin_1_is_wanted = refl

-- 00B0870004 answers FFFFFFFF9000
pin_1_is_verified : binary_read ruled_card pin1_verified AT_START (command 0x00 0xB0 0x87 0x00 [] (Some 4)) ≡ answered (0xFF ∷ 0xFF ∷ 0xFF ∷ 0xFF ∷ []) 0x9000 (on_ef 2 None)
unfolding refused_if given and_given descriptor_in descriptors_in file_found held_by arr_found ruling_record may grants pairs_truth pair_in named_truth mode_of group_truth condition_in part_truth key_truth part_in part_of length_in addressed binary_file reading read_from binary_read
pin_1_is_verified = refl

-- 00B0000001 answers 6982
the_rule_is_not_there : binary_read ruled_card pin1_verified (on_ef 3 None) (command 0x00 0xB0 0x00 0x00 [] (Some 1)) ≡ refused 0x6982
unfolding refused_if given and_given descriptor_in descriptors_in file_found held_by arr_found ruling_record may grants pairs_truth pair_in named_truth mode_of group_truth condition_in part_truth key_truth part_in part_of length_in addressed binary_file reading read_from binary_read
the_rule_is_not_there = refl

-- ---- two causes at once: the earlier one is told

-- 00B09F00 answers 6A86
wrong_short_identifier_and_no_le : binary_read card nothing_verified AT_START (command 0x00 0xB0 0x9F 0x00 [] None) ≡ refused 0x6A86
unfolding refused_if given and_given descriptor_in descriptors_in file_found held_by arr_found ruling_record may grants pairs_truth pair_in named_truth mode_of group_truth condition_in part_truth key_truth part_in part_of length_in addressed binary_file reading read_from binary_read
wrong_short_identifier_and_no_le = refl

-- 00B00000 answers 6700
no_le_and_no_file : binary_read card nothing_verified AT_START (command 0x00 0xB0 0x00 0x00 [] None) ≡ refused 0x6700
unfolding refused_if given and_given descriptor_in descriptors_in file_found held_by arr_found ruling_record may grants pairs_truth pair_in named_truth mode_of group_truth condition_in part_truth key_truth part_in part_of length_in addressed binary_file reading read_from binary_read
no_le_and_no_file = refl

-- 00B0890004 answers 6985
deactivated_and_not_allowed : binary_read ruled_card nothing_verified AT_START (command 0x00 0xB0 0x89 0x00 [] (Some 4)) ≡ refused 0x6985
unfolding refused_if given and_given descriptor_in descriptors_in file_found held_by arr_found ruling_record may grants pairs_truth pair_in named_truth mode_of group_truth condition_in part_truth key_truth part_in part_of length_in addressed binary_file reading read_from binary_read
deactivated_and_not_allowed = refl

-- 00B0870904 answers 6982
not_allowed_and_past_the_end : binary_read ruled_card nothing_verified AT_START (command 0x00 0xB0 0x87 0x09 [] (Some 4)) ≡ refused 0x6982
unfolding refused_if given and_given descriptor_in descriptors_in file_found held_by arr_found ruling_record may grants pairs_truth pair_in named_truth mode_of group_truth condition_in part_truth key_truth part_in part_of length_in addressed binary_file reading read_from binary_read
not_allowed_and_past_the_end = refl

-- ---- UPDATE BINARY

-- 00D6820004AABBCCDD answers 9000
bytes_are_written : binary_updated card nothing_verified AT_START (command 0x00 0xD6 0x82 0x00 (0xAA ∷ 0xBB ∷ 0xCC ∷ 0xDD ∷ []) None) ≡ committed [] (on_ef 1 None) (with_iccid (0xAA ∷ 0xBB ∷ 0xCC ∷ 0xDD ∷ 0x54 ∷ 0x76 ∷ 0x98 ∷ 0x10 ∷ 0x32 ∷ 0x54 ∷ [])) (PutBytes 1 0 (0xAA ∷ 0xBB ∷ 0xCC ∷ 0xDD ∷ []))
unfolding refused_if given and_given descriptor_in descriptors_in file_found held_by arr_found ruling_record may grants pairs_truth pair_in named_truth mode_of group_truth condition_in part_truth key_truth part_in part_of length_in with_file_changed patched addressed binary_file updating update_in binary_updated
bytes_are_written = refl

-- 00D6000802AABB answers 9000
behind_an_offset : binary_updated card nothing_verified (on_ef 1 None) (command 0x00 0xD6 0x00 0x08 (0xAA ∷ 0xBB ∷ []) None) ≡ committed [] (on_ef 1 None) (with_iccid (0x98 ∷ 0x10 ∷ 0x10 ∷ 0x32 ∷ 0x54 ∷ 0x76 ∷ 0x98 ∷ 0x10 ∷ 0xAA ∷ 0xBB ∷ [])) (PutBytes 1 8 (0xAA ∷ 0xBB ∷ []))
unfolding refused_if given and_given descriptor_in descriptors_in file_found held_by arr_found ruling_record may grants pairs_truth pair_in named_truth mode_of group_truth condition_in part_truth key_truth part_in part_of length_in with_file_changed patched addressed binary_file updating update_in binary_updated
behind_an_offset = refl

-- 00D6000902AABB answers 6B00
over_the_end : binary_updated card nothing_verified (on_ef 1 None) (command 0x00 0xD6 0x00 0x09 (0xAA ∷ 0xBB ∷ []) None) ≡ refused 0x6B00
unfolding refused_if given and_given descriptor_in descriptors_in file_found held_by arr_found ruling_record may grants pairs_truth pair_in named_truth mode_of group_truth condition_in part_truth key_truth part_in part_of length_in with_file_changed patched addressed binary_file updating update_in binary_updated
over_the_end = refl

-- 00D6870001AA answers 6982
updating_is_not_named : binary_updated ruled_card pin1_verified AT_START (command 0x00 0xD6 0x87 0x00 (0xAA ∷ []) None) ≡ refused 0x6982
unfolding refused_if given and_given descriptor_in descriptors_in file_found held_by arr_found ruling_record may grants pairs_truth pair_in named_truth mode_of group_truth condition_in part_truth key_truth part_in part_of length_in with_file_changed patched addressed binary_file updating update_in binary_updated
updating_is_not_named = refl

-- 00D60000 answers 6700
no_data_and_no_file : binary_updated card nothing_verified AT_START (command 0x00 0xD6 0x00 0x00 [] None) ≡ refused 0x6700
unfolding refused_if given and_given descriptor_in descriptors_in file_found held_by arr_found ruling_record may grants pairs_truth pair_in named_truth mode_of group_truth condition_in part_truth key_truth part_in part_of length_in with_file_changed patched addressed binary_file updating update_in binary_updated
no_data_and_no_file = refl
