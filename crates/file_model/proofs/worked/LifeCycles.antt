-- DEACTIVATE FILE and ACTIVATE FILE, worked out: the bytes of commands and what they answer.
use Rattle.std.proofs.Common.{◌≡◌, [], None, refl}
use Rattle.card_state.specs.Changes.{PutLife}
use Rattle.card_state.specs.Changing.{with_file_changed}
use Rattle.file_model.specs.Chains.{refused_if, given, and_given}
use Rattle.file_model.specs.Files.{descriptor_in, descriptors_in, file_found}
use Rattle.file_model.specs.declared.selections.TheConstants.Selection.{AT_START}
use Rattle.file_model.specs.Holdings.{held_by}
use Rattle.file_model.specs.Access.{arr_found, ruling_record, may}
use Rattle.file_model.specs.Outcomes.{addressed}
use Rattle.file_model.specs.LifeCycles.{bringing, life_file, life_in, life_changed, file_deactivated, file_activated}
use Rattle.file_model.proofs.worked.Cards.{card, quiet_card, busy_card, ruled_card, on_ef, nothing_verified, pin1_verified, command, answered, committed, refused}

-- 00040000 answers 9000
deactivated_now : file_deactivated busy_card nothing_verified (on_ef 1 None) (command 0x00 0x04 0x00 0x00 [] None) ≡ committed [] (on_ef 1 None) (quiet_card) (PutLife 1 0x04)
unfolding refused_if given and_given descriptor_in descriptors_in file_found held_by arr_found ruling_record may with_file_changed addressed bringing life_file life_in life_changed
deactivated_now = refl

-- without a commit: 00040000 answers 9000
deactivated_already : file_deactivated quiet_card nothing_verified (on_ef 1 None) (command 0x00 0x04 0x00 0x00 [] None) ≡ answered [] 0x9000 (on_ef 1 None)
unfolding refused_if given and_given descriptor_in descriptors_in file_found held_by arr_found ruling_record may with_file_changed addressed bringing life_file life_in life_changed
deactivated_already = refl

-- 00440000 answers 9000
activated_again : file_activated quiet_card nothing_verified (on_ef 1 None) (command 0x00 0x44 0x00 0x00 [] None) ≡ committed [] (on_ef 1 None) (busy_card) (PutLife 1 0x05)
unfolding refused_if given and_given descriptor_in descriptors_in file_found held_by arr_found ruling_record may with_file_changed addressed bringing life_file life_in life_changed
activated_again = refl

-- 00440000 answers 9000
activated_already : file_activated busy_card nothing_verified (on_ef 1 None) (command 0x00 0x44 0x00 0x00 [] None) ≡ answered [] 0x9000 (on_ef 1 None)
unfolding refused_if given and_given descriptor_in descriptors_in file_found held_by arr_found ruling_record may with_file_changed addressed bringing life_file life_in life_changed
activated_already = refl

-- 00040000 answers 6986
nothing_to_deactivate : file_deactivated card nothing_verified AT_START (command 0x00 0x04 0x00 0x00 [] None) ≡ refused 0x6986
unfolding refused_if given and_given descriptor_in descriptors_in file_found held_by arr_found ruling_record may with_file_changed addressed bringing life_file life_in life_changed
nothing_to_deactivate = refl

-- 00440000 answers 6982
the_rule_names_reading_alone : file_activated ruled_card pin1_verified (on_ef 3 None) (command 0x00 0x44 0x00 0x00 [] None) ≡ refused 0x6982
unfolding refused_if given and_given descriptor_in descriptors_in file_found held_by arr_found ruling_record may with_file_changed addressed bringing life_file life_in life_changed
the_rule_names_reading_alone = refl

-- 00440001 answers 6A86
wrong_p2_and_no_file : file_activated card nothing_verified AT_START (command 0x00 0x44 0x00 0x01 [] None) ≡ refused 0x6A86
unfolding refused_if given and_given descriptor_in descriptors_in file_found held_by arr_found ruling_record may with_file_changed addressed bringing life_file life_in life_changed
wrong_p2_and_no_file = refl
