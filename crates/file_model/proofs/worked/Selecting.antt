-- SELECT and STATUS, worked out: the bytes of commands and what they answer.
use Rattle.std.proofs.Common.{◌≡◌, [], ◌∷◌, Some, None, refl}
use Rattle.access_rules.specs.Objects.{object}
use Rattle.file_model.specs.Chains.{refused_if, given, and_given}
use Rattle.file_model.specs.Files.{descriptor_in, descriptors_in, file_found}
use Rattle.file_model.specs.declared.selections.TheConstants.Selection.{AT_START}
use Rattle.file_model.specs.Selections.{selection_of, chosen_by_identifier, chosen_by_path, chosen}
use Rattle.file_model.specs.Fcp.{fcp}
use Rattle.file_model.specs.Selecting.{selecting, file_selected, telling, status_told}
use Rattle.file_model.proofs.worked.Cards.{card, with_files, quiet_card, tree_card, iccid_file, in_df, on_ef, command, answered, refused}

-- ---- by identifier

-- 00A40004022FE2 answers 62128202412183022FE28A01058002000A8801109000
an_ef : file_selected card AT_START (command 0x00 0xA4 0x00 0x04 (0x2F ∷ 0xE2 ∷ []) None) ≡ answered (0x62 ∷ 0x12 ∷ 0x82 ∷ 0x02 ∷ 0x41 ∷ 0x21 ∷ 0x83 ∷ 0x02 ∷ 0x2F ∷ 0xE2 ∷ 0x8A ∷ 0x01 ∷ 0x05 ∷ 0x80 ∷ 0x02 ∷ 0x00 ∷ 0x0A ∷ 0x88 ∷ 0x01 ∷ 0x10 ∷ []) 0x9000 (on_ef 1 None)
unfolding object refused_if given and_given descriptor_in descriptors_in file_found selection_of chosen_by_identifier chosen_by_path chosen fcp selecting file_selected
an_ef = refl

-- the record length and the number of records are told: 00A40004026F3A answers 62158205422100040283026F3A8A0105800200088801089000
an_ef_with_records : file_selected card (on_ef 1 None) (command 0x00 0xA4 0x00 0x04 (0x6F ∷ 0x3A ∷ []) None) ≡ answered (0x62 ∷ 0x15 ∷ 0x82 ∷ 0x05 ∷ 0x42 ∷ 0x21 ∷ 0x00 ∷ 0x04 ∷ 0x02 ∷ 0x83 ∷ 0x02 ∷ 0x6F ∷ 0x3A ∷ 0x8A ∷ 0x01 ∷ 0x05 ∷ 0x80 ∷ 0x02 ∷ 0x00 ∷ 0x08 ∷ 0x88 ∷ 0x01 ∷ 0x08 ∷ []) 0x9000 (on_ef 2 None)
unfolding object refused_if given and_given descriptor_in descriptors_in file_found selection_of chosen_by_identifier chosen_by_path chosen fcp selecting file_selected
an_ef_with_records = refl

-- which PINs there are, and both enabled: 00A40004023F00 answers 62168202782183023F008A0105C6099001C083010183010A9000
the_mf_tells_its_pins : file_selected card (on_ef 1 None) (command 0x00 0xA4 0x00 0x04 (0x3F ∷ 0x00 ∷ []) None) ≡ answered (0x62 ∷ 0x16 ∷ 0x82 ∷ 0x02 ∷ 0x78 ∷ 0x21 ∷ 0x83 ∷ 0x02 ∷ 0x3F ∷ 0x00 ∷ 0x8A ∷ 0x01 ∷ 0x05 ∷ 0xC6 ∷ 0x09 ∷ 0x90 ∷ 0x01 ∷ 0xC0 ∷ 0x83 ∷ 0x01 ∷ 0x01 ∷ 0x83 ∷ 0x01 ∷ 0x0A ∷ []) 0x9000 AT_START
unfolding object refused_if given and_given descriptor_in descriptors_in file_found selection_of chosen_by_identifier chosen_by_path chosen fcp selecting file_selected
the_mf_tells_its_pins = refl

-- 00A40004023F00 answers 62108202782183023F008A0105C6039001009000
the_mf_without_pins : file_selected (with_files (iccid_file ∷ [])) AT_START (command 0x00 0xA4 0x00 0x04 (0x3F ∷ 0x00 ∷ []) None) ≡ answered (0x62 ∷ 0x10 ∷ 0x82 ∷ 0x02 ∷ 0x78 ∷ 0x21 ∷ 0x83 ∷ 0x02 ∷ 0x3F ∷ 0x00 ∷ 0x8A ∷ 0x01 ∷ 0x05 ∷ 0xC6 ∷ 0x03 ∷ 0x90 ∷ 0x01 ∷ 0x00 ∷ []) 0x9000 AT_START
unfolding object refused_if given and_given descriptor_in descriptors_in file_found selection_of chosen_by_identifier chosen_by_path chosen fcp selecting file_selected
the_mf_without_pins = refl

-- 00A4000C022FE2 answers 9000
no_data_asked_for : file_selected card AT_START (command 0x00 0xA4 0x00 0x0C (0x2F ∷ 0xE2 ∷ []) None) ≡ answered [] 0x9000 (on_ef 1 None)
unfolding object refused_if given and_given descriptor_in descriptors_in file_found selection_of chosen_by_identifier chosen_by_path chosen fcp selecting file_selected
no_data_asked_for = refl

-- 00A4000C026FFF answers 6A82
no_such_file : file_selected card AT_START (command 0x00 0xA4 0x00 0x0C (0x6F ∷ 0xFF ∷ []) None) ≡ refused 0x6A82
unfolding object refused_if given and_given descriptor_in descriptors_in file_found selection_of chosen_by_identifier chosen_by_path chosen fcp selecting file_selected
no_such_file = refl

-- 00A4000C022FE2 answers 6283
a_deactivated_ef : file_selected quiet_card AT_START (command 0x00 0xA4 0x00 0x0C (0x2F ∷ 0xE2 ∷ []) None) ≡ answered [] 0x6283 (on_ef 1 None)
unfolding object refused_if given and_given descriptor_in descriptors_in file_found selection_of chosen_by_identifier chosen_by_path chosen fcp selecting file_selected
a_deactivated_ef = refl

-- it lies in a DF that is not the current one: 00A4000C026F3C answers 6A82
a_child_of_another_df : file_selected tree_card AT_START (command 0x00 0xA4 0x00 0x0C (0x6F ∷ 0x3C ∷ []) None) ≡ refused 0x6A82
unfolding object refused_if given and_given descriptor_in descriptors_in file_found selection_of chosen_by_identifier chosen_by_path chosen fcp selecting file_selected
a_child_of_another_df = refl

-- 00A4000C027F10 answers 9000
the_df_above_an_ef : file_selected tree_card (record { df = 1; ef = Some 2; pointer = None }) (command 0x00 0xA4 0x00 0x0C (0x7F ∷ 0x10 ∷ []) None) ≡ answered [] 0x9000 (in_df 1)
unfolding object refused_if given and_given descriptor_in descriptors_in file_found selection_of chosen_by_identifier chosen_by_path chosen fcp selecting file_selected
the_df_above_an_ef = refl

-- ---- by path, and the DF above

-- 00A4080C047F106F3C answers 9000
a_path_from_the_mf : file_selected tree_card AT_START (command 0x00 0xA4 0x08 0x0C (0x7F ∷ 0x10 ∷ 0x6F ∷ 0x3C ∷ []) None) ≡ answered [] 0x9000 (record { df = 1; ef = Some 2; pointer = None })
unfolding object refused_if given and_given descriptor_in descriptors_in file_found selection_of chosen_by_identifier chosen_by_path chosen fcp selecting file_selected
a_path_from_the_mf = refl

-- 00A4090C026F3C answers 9000
a_path_from_the_current_df : file_selected tree_card (in_df 1) (command 0x00 0xA4 0x09 0x0C (0x6F ∷ 0x3C ∷ []) None) ≡ answered [] 0x9000 (record { df = 1; ef = Some 2; pointer = None })
unfolding object refused_if given and_given descriptor_in descriptors_in file_found selection_of chosen_by_identifier chosen_by_path chosen fcp selecting file_selected
a_path_from_the_current_df = refl

-- 00A4080C042FE26F3A answers 6A82
a_path_through_an_ef : file_selected card AT_START (command 0x00 0xA4 0x08 0x0C (0x2F ∷ 0xE2 ∷ 0x6F ∷ 0x3A ∷ []) None) ≡ refused 0x6A82
unfolding object refused_if given and_given descriptor_in descriptors_in file_found selection_of chosen_by_identifier chosen_by_path chosen fcp selecting file_selected
a_path_through_an_ef = refl

-- 00A4080C043F007F10 answers 6A82
the_mf_is_nobodys_child : file_selected tree_card AT_START (command 0x00 0xA4 0x08 0x0C (0x3F ∷ 0x00 ∷ 0x7F ∷ 0x10 ∷ []) None) ≡ refused 0x6A82
unfolding object refused_if given and_given descriptor_in descriptors_in file_found selection_of chosen_by_identifier chosen_by_path chosen fcp selecting file_selected
the_mf_is_nobodys_child = refl

-- 00A4030C answers 9000
the_df_above : file_selected tree_card (in_df 1) (command 0x00 0xA4 0x03 0x0C [] None) ≡ answered [] 0x9000 AT_START
unfolding object refused_if given and_given descriptor_in descriptors_in file_found selection_of chosen_by_identifier chosen_by_path chosen fcp selecting file_selected
the_df_above = refl

-- 00A4030C answers 6A82
nothing_above_the_mf : file_selected tree_card AT_START (command 0x00 0xA4 0x03 0x0C [] None) ≡ refused 0x6A82
unfolding object refused_if given and_given descriptor_in descriptors_in file_found selection_of chosen_by_identifier chosen_by_path chosen fcp selecting file_selected
nothing_above_the_mf = refl

-- 00A4040C02A000 answers 6A82
no_application : file_selected tree_card AT_START (command 0x00 0xA4 0x04 0x0C (0xA0 ∷ 0x00 ∷ []) None) ≡ refused 0x6A82
unfolding object refused_if given and_given descriptor_in descriptors_in file_found selection_of chosen_by_identifier chosen_by_path chosen fcp selecting file_selected
no_application = refl

-- ---- two causes at once: the earlier one is told

-- 00A40000012F answers 6A86
wrong_p2_and_length : file_selected card AT_START (command 0x00 0xA4 0x00 0x00 (0x2F ∷ []) None) ≡ refused 0x6A86
unfolding object refused_if given and_given descriptor_in descriptors_in file_found selection_of chosen_by_identifier chosen_by_path chosen fcp selecting file_selected
wrong_p2_and_length = refl

-- 00A4000C036FFF00 answers 6700
wrong_length_and_no_file : file_selected card AT_START (command 0x00 0xA4 0x00 0x0C (0x6F ∷ 0xFF ∷ 0x00 ∷ []) None) ≡ refused 0x6700
unfolding object refused_if given and_given descriptor_in descriptors_in file_found selection_of chosen_by_identifier chosen_by_path chosen fcp selecting file_selected
wrong_length_and_no_file = refl

-- 00A4080C036FFF00 answers 6700
an_odd_path : file_selected card AT_START (command 0x00 0xA4 0x08 0x0C (0x6F ∷ 0xFF ∷ 0x00 ∷ []) None) ≡ refused 0x6700
unfolding object refused_if given and_given descriptor_in descriptors_in file_found selection_of chosen_by_identifier chosen_by_path chosen fcp selecting file_selected
an_odd_path = refl

-- ---- STATUS

-- 80F20000 answers 62108202782183023F008A0105C6039001009000
status_of_the_mf : status_told (with_files (iccid_file ∷ [])) (on_ef 1 None) (command 0x80 0xF2 0x00 0x00 [] None) ≡ answered (0x62 ∷ 0x10 ∷ 0x82 ∷ 0x02 ∷ 0x78 ∷ 0x21 ∷ 0x83 ∷ 0x02 ∷ 0x3F ∷ 0x00 ∷ 0x8A ∷ 0x01 ∷ 0x05 ∷ 0xC6 ∷ 0x03 ∷ 0x90 ∷ 0x01 ∷ 0x00 ∷ []) 0x9000 (on_ef 1 None)
unfolding object refused_if given and_given descriptor_in descriptors_in file_found fcp telling status_told
status_of_the_mf = refl

-- 80F2000C answers 9000
status_without_data : status_told card AT_START (command 0x80 0xF2 0x00 0x0C [] None) ≡ answered [] 0x9000 AT_START
unfolding object refused_if given and_given descriptor_in descriptors_in file_found fcp telling status_told
status_without_data = refl

-- 80F2010000 answers 62108202782183027F108A0105C6039001009000
status_of_a_df : status_told tree_card (in_df 1) (command 0x80 0xF2 0x01 0x00 [] (Some 256)) ≡ answered (0x62 ∷ 0x10 ∷ 0x82 ∷ 0x02 ∷ 0x78 ∷ 0x21 ∷ 0x83 ∷ 0x02 ∷ 0x7F ∷ 0x10 ∷ 0x8A ∷ 0x01 ∷ 0x05 ∷ 0xC6 ∷ 0x03 ∷ 0x90 ∷ 0x01 ∷ 0x00 ∷ []) 0x9000 (in_df 1)
unfolding object refused_if given and_given descriptor_in descriptors_in file_found fcp telling status_told
status_of_a_df = refl

-- 80F203000100 answers 6A86
wrong_p1_and_data : status_told card AT_START (command 0x80 0xF2 0x03 0x00 (0x00 ∷ []) None) ≡ refused 0x6A86
unfolding object refused_if given and_given descriptor_in descriptors_in file_found fcp telling status_told
wrong_p1_and_data = refl

-- 80F200000100 answers 6700
status_with_data : status_told card AT_START (command 0x80 0xF2 0x00 0x00 (0x00 ∷ []) None) ≡ refused 0x6700
unfolding object refused_if given and_given descriptor_in descriptors_in file_found fcp telling status_told
status_with_data = refl
