-- How files are found and who may use them, worked out.
use Rattle.std.proofs.Common.{◌≡◌, ℕ, true, false, [], ◌∷◌, Some, None, refl}
use Rattle.card_state.specs.Blank.{unused_node}
use Rattle.card_state.specs.Persistent.{Files, Bytes, Records, File, Persistent}
use Rattle.card_state.specs.declared.entries.Node.{Node}
use Rattle.access_rules.specs.Reading.{length_in, part_of, part_in, part_truth, condition_in, group_truth, mode_of, named_truth, pair_in, pairs_truth, truth_of_nothing, grants}
use Rattle.access_rules.specs.declared.rules.Op.TheVariants.{ReadBinary, UpdateBinary}
use Rattle.file_model.specs.declared.descriptors.Descriptor.{Descriptor}
use Rattle.file_model.specs.declared.descriptors.Wanted.TheVariants.{Short, ChildDf}
use Rattle.file_model.specs.Files.{descriptor_of, descriptor_in, descriptors_in, file_found}
use Rattle.file_model.specs.Holdings.{held_by}
use Rattle.file_model.specs.Access.{keys_seen, arr_found, ruling_record, may}
use Rattle.file_model.specs.Records.{has_within, number_of, bytes_of}
use Rattle.file_model.proofs.worked.Cards.{card, with_files, with_user, user_pin, nothing_verified, pin1_verified}

-- ---- what is known of a file

abbrev linear_told : Descriptor
linear_told = record { number = 2; parent = 0; kind = 0x42; id = record { 0 = 0x6F3A }; short = 1; life = 5; rule = None; size = 8; width = 4; count = 2 }

a_file_tells : file_found (descriptors_in card) (Short 0 1) ≡ Some linear_told
unfolding descriptor_in descriptors_in file_found
a_file_tells = refl

-- an entry tells the same
abbrev linear_entry : Node
linear_entry = record unused_node { used = true; kind = 0x42; id = record { 0 = 0x6F3A }; short = 1; life = 5; place = 3978; size = 8; length = 4 }

an_entry_tells : descriptor_of 2 linear_entry ≡ linear_told
unfolding descriptor_of
an_entry_tells = refl

-- a DF has neither a short identifier nor a rule, whatever its entry holds
a_df_tells : descriptor_of 1 (record unused_node { used = true; kind = 0x78; id = record { 0 = 0x7F10 }; short = 9; life = 4; rule = 3; size = 7; length = 1 })
    ≡ record { number = 1; parent = 0; kind = 0x78; id = record { 0 = 0x7F10 }; short = 0; life = 5; rule = None; size = 0; width = 0; count = 0 }
unfolding descriptor_of
a_df_tells = refl

no_df_of_that_name : file_found (descriptors_in card) (ChildDf 0 (record { 0 = 0x6F3A })) ≡ None
unfolding descriptor_in descriptors_in file_found
no_df_of_that_name = refl

-- ---- keys

-- a PIN that is disabled needs no verification, and one that isn't there is never satisfied
a_disabled_pin : keys_seen (with_user (record user_pin { is_enabled = false })) nothing_verified ≡ pin1_verified
unfolding keys_seen
a_disabled_pin = refl

no_such_pin : keys_seen (with_user user_pin) (record { pin1 = true; pin2 = true; adm1 = false }) ≡ pin1_verified
unfolding keys_seen
no_such_pin = refl

-- ---- the EF_ARR

-- 2F06 in the MF, and another one in a DF, which is transparent; a file in each
abbrev arr : ℕ → ℕ → File
arr number parent = record { number = number; parent = parent; kind = 0x42; id = 0x2F06; short = 0; life = 5; rule = None; place = 3968; size = 5; contents = Records ((0x80 ∷ 0x01 ∷ 0x01 ∷ 0x90 ∷ 0x00 ∷ []) ∷ []) }

abbrev df : ℕ → ℕ → File
df number parent = record { number = number; parent = parent; kind = 0x78; id = 0x7F00; short = 0; life = 5; rule = None; place = 0; size = 0; contents = Files }

abbrev ruled : ℕ → ℕ → File
ruled number parent = record { number = number; parent = parent; kind = 0x41; id = 0x6F01; short = 0; life = 5; rule = Some (record { arr = 0x2F06; number = 1 }); place = 3973; size = 1; contents = Bytes (0xFF ∷ []) }

-- the MF with an EF_ARR; below it DF 2, in it DF 3, and in that a file
abbrev deep_card : Persistent
deep_card = with_files (arr 1 0 ∷ df 2 0 ∷ df 3 2 ∷ ruled 4 3 ∷ [])

-- the same where DF 2 has a transparent EF of that name
abbrev hidden_card : Persistent
hidden_card = with_files (arr 1 0 ∷ df 2 0 ∷ df 3 2 ∷ ruled 4 3 ∷ record (arr 5 2) { kind = 0x41; contents = Bytes (0x80 ∷ 0x01 ∷ 0x01 ∷ 0x90 ∷ 0x00 ∷ []) } ∷ [])

found_in_the_mf : arr_found (descriptors_in deep_card) 3 (record { 0 = 0x2F06 }) ≡ Some (descriptor_in (arr 1 0))
unfolding descriptor_in descriptors_in file_found arr_found
found_in_the_mf = refl

it_lets_everybody_read : may deep_card ReadBinary nothing_verified (descriptor_in (ruled 4 3)) ≡ true
unfolding descriptor_in descriptors_in file_found held_by arr_found ruling_record may grants pairs_truth pair_in named_truth mode_of group_truth condition_in part_truth truth_of_nothing part_in part_of length_in
it_lets_everybody_read = refl

and_nobody_write : may deep_card UpdateBinary pin1_verified (descriptor_in (ruled 4 3)) ≡ false
unfolding descriptor_in descriptors_in file_found held_by arr_found ruling_record may grants pairs_truth pair_in named_truth mode_of group_truth condition_in part_truth truth_of_nothing part_in part_of length_in
and_nobody_write = refl

-- the nearer EF ends the search, and has no records
the_nearer_one_hides_it : may hidden_card ReadBinary pin1_verified (descriptor_in (ruled 4 3)) ≡ false
unfolding descriptor_in descriptors_in file_found held_by arr_found ruling_record may
the_nearer_one_hides_it = refl

-- ---- records

in_the_middle : has_within (2 ∷ 3 ∷ []) (1 ∷ 2 ∷ 2 ∷ 3 ∷ 4 ∷ []) ≡ true
in_the_middle = refl

not_in_pieces : has_within (2 ∷ 4 ∷ []) (1 ∷ 2 ∷ 3 ∷ 4 ∷ []) ≡ false
not_in_pieces = refl

a_number : number_of (0x01 ∷ 0x02 ∷ 0x03 ∷ []) ≡ 0x010203
a_number = refl

its_bytes : bytes_of 3 0x010203 ≡ 0x01 ∷ 0x02 ∷ 0x03 ∷ []
its_bytes = refl
