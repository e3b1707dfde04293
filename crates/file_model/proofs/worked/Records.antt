-- READ RECORD, UPDATE RECORD, SEARCH RECORD and INCREASE, worked out: the bytes of commands and what they answer.
use Rattle.std.proofs.Common.{◌≡◌, [], ◌∷◌, Some, None, refl}
use Rattle.card_state.specs.Changes.{PutRecord, PutNewest}
use Rattle.card_state.specs.Changing.{with_file_changed}
use Rattle.file_model.specs.Chains.{refused_if, given, and_given}
use Rattle.file_model.specs.Files.{descriptor_in, descriptors_in, file_found}
use Rattle.file_model.specs.declared.selections.TheConstants.Selection.{AT_START}
use Rattle.file_model.specs.Holdings.{held_by}
use Rattle.file_model.specs.Access.{arr_found, ruling_record, may}
use Rattle.file_model.specs.Outcomes.{addressed}
use Rattle.file_model.specs.Records.{record_file, record_named, number_to_read, record_reading, record_read_from, record_read, number_to_update, record_updating, record_update_in, record_updated, numbers_matched, number_to_search, searching, search_in, searched, sum_to_write, increasing, increase_in, increased}
use Rattle.file_model.proofs.worked.Cards.{card, with_ring, with_linear, on_ef, nothing_verified, command, answered, committed, refused}

-- ---- READ RECORD

-- 00B2000204 answers 41FFFFFF9000
the_next_one_is_the_first : record_read card nothing_verified (on_ef 2 None) (command 0x00 0xB2 0x00 0x02 [] (Some 4)) ≡ answered (0x41 ∷ 0xFF ∷ 0xFF ∷ 0xFF ∷ []) 0x9000 (on_ef 2 (Some 1))
unfolding refused_if given and_given descriptor_in descriptors_in file_found held_by arr_found ruling_record may addressed record_file record_named number_to_read record_reading record_read_from record_read
the_next_one_is_the_first = refl

-- 00B2000204 answers 42FFFFFF9000
and_then_the_second : record_read card nothing_verified (on_ef 2 (Some 1)) (command 0x00 0xB2 0x00 0x02 [] (Some 4)) ≡ answered (0x42 ∷ 0xFF ∷ 0xFF ∷ 0xFF ∷ []) 0x9000 (on_ef 2 (Some 2))
unfolding refused_if given and_given descriptor_in descriptors_in file_found held_by arr_found ruling_record may addressed record_file record_named number_to_read record_reading record_read_from record_read
and_then_the_second = refl

-- 00B2000204 answers 6A83
behind_the_last_is_none : record_read card nothing_verified (on_ef 2 (Some 2)) (command 0x00 0xB2 0x00 0x02 [] (Some 4)) ≡ refused 0x6A83
unfolding refused_if given and_given descriptor_in descriptors_in file_found held_by arr_found ruling_record may addressed record_file record_named number_to_read record_reading record_read_from record_read
behind_the_last_is_none = refl

-- 00B2000304 answers 41FFFFFF9000
the_one_before : record_read card nothing_verified (on_ef 2 (Some 2)) (command 0x00 0xB2 0x00 0x03 [] (Some 4)) ≡ answered (0x41 ∷ 0xFF ∷ 0xFF ∷ 0xFF ∷ []) 0x9000 (on_ef 2 (Some 1))
unfolding refused_if given and_given descriptor_in descriptors_in file_found held_by arr_found ruling_record may addressed record_file record_named number_to_read record_reading record_read_from record_read
the_one_before = refl

-- 00B2000203 answers 0000049000
behind_the_last_of_a_ring_is_the_first : record_read (with_ring ((0x00 ∷ 0x00 ∷ 0x04 ∷ []) ∷ (0x00 ∷ 0x00 ∷ 0x03 ∷ []) ∷ (0x00 ∷ 0x00 ∷ 0x02 ∷ []) ∷ [])) nothing_verified (on_ef 3 (Some 3)) (command 0x00 0xB2 0x00 0x02 [] (Some 3)) ≡ answered (0x00 ∷ 0x00 ∷ 0x04 ∷ []) 0x9000 (on_ef 3 (Some 1))
unfolding refused_if given and_given descriptor_in descriptors_in file_found held_by arr_found ruling_record may addressed record_file record_named number_to_read record_reading record_read_from record_read
behind_the_last_of_a_ring_is_the_first = refl

-- 00B2020403 answers 0000039000
by_number : record_read (with_ring ((0x00 ∷ 0x00 ∷ 0x04 ∷ []) ∷ (0x00 ∷ 0x00 ∷ 0x03 ∷ []) ∷ (0x00 ∷ 0x00 ∷ 0x02 ∷ []) ∷ [])) nothing_verified (on_ef 3 (Some 1)) (command 0x00 0xB2 0x02 0x04 [] (Some 3)) ≡ answered (0x00 ∷ 0x00 ∷ 0x03 ∷ []) 0x9000 (on_ef 3 (Some 1))
unfolding refused_if given and_given descriptor_in descriptors_in file_found held_by arr_found ruling_record may addressed record_file record_named number_to_read record_reading record_read_from record_read
by_number = refl

-- 00B2000404 answers 42FFFFFF9000
at_the_pointer : record_read card nothing_verified (on_ef 2 (Some 2)) (command 0x00 0xB2 0x00 0x04 [] (Some 4)) ≡ answered (0x42 ∷ 0xFF ∷ 0xFF ∷ 0xFF ∷ []) 0x9000 (on_ef 2 (Some 2))
unfolding refused_if given and_given descriptor_in descriptors_in file_found held_by arr_found ruling_record may addressed record_file record_named number_to_read record_reading record_read_from record_read
at_the_pointer = refl

-- 00B2000404 answers 6A83
no_pointer : record_read card nothing_verified (on_ef 2 None) (command 0x00 0xB2 0x00 0x04 [] (Some 4)) ≡ refused 0x6A83
unfolding refused_if given and_given descriptor_in descriptors_in file_found held_by arr_found ruling_record may addressed record_file record_named number_to_read record_reading record_read_from record_read
no_pointer = refl

-- the pointer begins anew: 00B2000A04 answers 41FFFFFF9000
by_short_identifier : record_read card nothing_verified (on_ef 2 (Some 2)) (command 0x00 0xB2 0x00 0x0A [] (Some 4)) ≡ answered (0x41 ∷ 0xFF ∷ 0xFF ∷ 0xFF ∷ []) 0x9000 (on_ef 2 (Some 1))
unfolding refused_if given and_given descriptor_in descriptors_in file_found held_by arr_found ruling_record may addressed record_file record_named number_to_read record_reading record_read_from record_read
by_short_identifier = refl

-- 00B2010403 answers 6C04
another_length : record_read card nothing_verified (on_ef 2 None) (command 0x00 0xB2 0x01 0x04 [] (Some 3)) ≡ refused 0x6C04
unfolding refused_if given and_given descriptor_in descriptors_in file_found held_by arr_found ruling_record may addressed record_file record_named number_to_read record_reading record_read_from record_read
another_length = refl

-- 00B2030403 answers 6A83
no_such_record_and_another_length : record_read card nothing_verified (on_ef 2 None) (command 0x00 0xB2 0x03 0x04 [] (Some 3)) ≡ refused 0x6A83
unfolding refused_if given and_given descriptor_in descriptors_in file_found held_by arr_found ruling_record may addressed record_file record_named number_to_read record_reading record_read_from record_read
no_such_record_and_another_length = refl

-- 00B20102 answers 6A86
a_number_with_the_next_and_no_le : record_read card nothing_verified (on_ef 2 None) (command 0x00 0xB2 0x01 0x02 [] None) ≡ refused 0x6A86
unfolding refused_if given and_given descriptor_in descriptors_in file_found held_by arr_found ruling_record may addressed record_file record_named number_to_read record_reading record_read_from record_read
a_number_with_the_next_and_no_le = refl

-- 00B2000004 answers 6A86
no_such_mode : record_read card nothing_verified (on_ef 2 None) (command 0x00 0xB2 0x00 0x00 [] (Some 4)) ≡ refused 0x6A86
unfolding refused_if given and_given descriptor_in descriptors_in file_found held_by arr_found ruling_record may addressed record_file record_named number_to_read record_reading record_read_from record_read
no_such_mode = refl

-- 00B2000204 answers 6981
bytes_are_no_records : record_read card nothing_verified (on_ef 1 None) (command 0x00 0xB2 0x00 0x02 [] (Some 4)) ≡ refused 0x6981
unfolding refused_if given and_given descriptor_in descriptors_in file_found held_by arr_found ruling_record may addressed record_file record_named number_to_read record_reading record_read_from record_read
bytes_are_no_records = refl

-- ---- UPDATE RECORD

-- 00DC000303000001 answers 9000
a_new_first_record : record_updated card nothing_verified (on_ef 3 None) (command 0x00 0xDC 0x00 0x03 (0x00 ∷ 0x00 ∷ 0x01 ∷ []) None) ≡ committed [] (on_ef 3 (Some 1)) (with_ring ((0x00 ∷ 0x00 ∷ 0x01 ∷ []) ∷ (0xFF ∷ 0xFF ∷ 0xFF ∷ []) ∷ (0xFF ∷ 0xFF ∷ 0xFF ∷ []) ∷ [])) (PutNewest 3 (0x00 ∷ 0x00 ∷ 0x01 ∷ []))
unfolding refused_if given and_given descriptor_in descriptors_in file_found held_by arr_found ruling_record may with_file_changed addressed record_file record_named number_to_update record_updating record_update_in record_updated
a_new_first_record = refl

-- 00DC000303000004 answers 9000
the_oldest_goes : record_updated (with_ring ((0x00 ∷ 0x00 ∷ 0x03 ∷ []) ∷ (0x00 ∷ 0x00 ∷ 0x02 ∷ []) ∷ (0x00 ∷ 0x00 ∷ 0x01 ∷ []) ∷ [])) nothing_verified (on_ef 3 (Some 1)) (command 0x00 0xDC 0x00 0x03 (0x00 ∷ 0x00 ∷ 0x04 ∷ []) None) ≡ committed [] (on_ef 3 (Some 1)) (with_ring ((0x00 ∷ 0x00 ∷ 0x04 ∷ []) ∷ (0x00 ∷ 0x00 ∷ 0x03 ∷ []) ∷ (0x00 ∷ 0x00 ∷ 0x02 ∷ []) ∷ [])) (PutNewest 3 (0x00 ∷ 0x00 ∷ 0x04 ∷ []))
unfolding refused_if given and_given descriptor_in descriptors_in file_found held_by arr_found ruling_record may with_file_changed addressed record_file record_named number_to_update record_updating record_update_in record_updated
the_oldest_goes = refl

-- 00DC010403000009 answers 6981
a_ring_takes_no_number : record_updated card nothing_verified (on_ef 3 None) (command 0x00 0xDC 0x01 0x04 (0x00 ∷ 0x00 ∷ 0x09 ∷ []) None) ≡ refused 0x6981
unfolding refused_if given and_given descriptor_in descriptors_in file_found held_by arr_found ruling_record may with_file_changed addressed record_file record_named number_to_update record_updating record_update_in record_updated
a_ring_takes_no_number = refl

-- 00DC010C0443444546 answers 9000
a_record_by_number : record_updated card nothing_verified AT_START (command 0x00 0xDC 0x01 0x0C (0x43 ∷ 0x44 ∷ 0x45 ∷ 0x46 ∷ []) None) ≡ committed [] (on_ef 2 None) (with_linear ((0x43 ∷ 0x44 ∷ 0x45 ∷ 0x46 ∷ []) ∷ (0x42 ∷ 0xFF ∷ 0xFF ∷ 0xFF ∷ []) ∷ [])) (PutRecord 2 0 (0x43 ∷ 0x44 ∷ 0x45 ∷ 0x46 ∷ []))
unfolding refused_if given and_given descriptor_in descriptors_in file_found held_by arr_found ruling_record may with_file_changed addressed record_file record_named number_to_update record_updating record_update_in record_updated
a_record_by_number = refl

-- 00DC010403434445 answers 6700
a_record_of_another_length : record_updated card nothing_verified (on_ef 2 None) (command 0x00 0xDC 0x01 0x04 (0x43 ∷ 0x44 ∷ 0x45 ∷ []) None) ≡ refused 0x6700
unfolding refused_if given and_given descriptor_in descriptors_in file_found held_by arr_found ruling_record may with_file_changed addressed record_file record_named number_to_update record_updating record_update_in record_updated
a_record_of_another_length = refl

-- 00DC030403434445 answers 6A83
no_such_record_of_another_length : record_updated card nothing_verified (on_ef 2 None) (command 0x00 0xDC 0x03 0x04 (0x43 ∷ 0x44 ∷ 0x45 ∷ []) None) ≡ refused 0x6A83
unfolding refused_if given and_given descriptor_in descriptors_in file_found held_by arr_found ruling_record may with_file_changed addressed record_file record_named number_to_update record_updating record_update_in record_updated
no_such_record_of_another_length = refl

-- ---- SEARCH RECORD

-- 00A201040142 answers 029000
found : searched card nothing_verified (on_ef 2 None) (command 0x00 0xA2 0x01 0x04 (0x42 ∷ []) None) ≡ answered (0x02 ∷ []) 0x9000 (on_ef 2 (Some 2))
unfolding refused_if given and_given descriptor_in descriptors_in file_found held_by arr_found ruling_record may addressed record_file numbers_matched number_to_search searching search_in searched
found = refl

-- the pointer stays: 00A201040143 answers 6282
not_found : searched card nothing_verified (on_ef 2 (Some 1)) (command 0x00 0xA2 0x01 0x04 (0x43 ∷ []) None) ≡ answered [] 0x6282 (on_ef 2 (Some 1))
unfolding refused_if given and_given descriptor_in descriptors_in file_found held_by arr_found ruling_record may addressed record_file numbers_matched number_to_search searching search_in searched
not_found = refl

-- 00A2020501FF answers 02019000
backward : searched card nothing_verified (on_ef 2 None) (command 0x00 0xA2 0x02 0x05 (0xFF ∷ []) None) ≡ answered (0x02 ∷ 0x01 ∷ []) 0x9000 (on_ef 2 (Some 2))
unfolding refused_if given and_given descriptor_in descriptors_in file_found held_by arr_found ruling_record may addressed record_file numbers_matched number_to_search searching search_in searched
backward = refl

-- 00A2000401FF answers 029000
from_the_pointer : searched card nothing_verified (on_ef 2 (Some 2)) (command 0x00 0xA2 0x00 0x04 (0xFF ∷ []) None) ≡ answered (0x02 ∷ []) 0x9000 (on_ef 2 (Some 2))
unfolding refused_if given and_given descriptor_in descriptors_in file_found held_by arr_found ruling_record may addressed record_file numbers_matched number_to_search searching search_in searched
from_the_pointer = refl

-- 00A2010405FFFFFFFFFF answers 6700
longer_than_a_record : searched card nothing_verified (on_ef 2 None) (command 0x00 0xA2 0x01 0x04 (0xFF ∷ 0xFF ∷ 0xFF ∷ 0xFF ∷ 0xFF ∷ []) None) ≡ refused 0x6700
unfolding refused_if given and_given descriptor_in descriptors_in file_found held_by arr_found ruling_record may addressed record_file numbers_matched number_to_search searching search_in searched
longer_than_a_record = refl

-- 00A2030405FFFFFFFFFF answers 6A83
from_no_record_and_longer : searched card nothing_verified (on_ef 2 None) (command 0x00 0xA2 0x03 0x04 (0xFF ∷ 0xFF ∷ 0xFF ∷ 0xFF ∷ 0xFF ∷ []) None) ≡ refused 0x6A83
unfolding refused_if given and_given descriptor_in descriptors_in file_found held_by arr_found ruling_record may addressed record_file numbers_matched number_to_search searching search_in searched
from_no_record_and_longer = refl

-- ---- INCREASE

-- 8032000003000002 answers 0000060000029000
the_sum_and_what_was_added : increased (with_ring ((0x00 ∷ 0x00 ∷ 0x04 ∷ []) ∷ (0x00 ∷ 0x00 ∷ 0x03 ∷ []) ∷ (0x00 ∷ 0x00 ∷ 0x02 ∷ []) ∷ [])) nothing_verified (on_ef 3 None) (command 0x80 0x32 0x00 0x00 (0x00 ∷ 0x00 ∷ 0x02 ∷ []) None) ≡ committed (0x00 ∷ 0x00 ∷ 0x06 ∷ 0x00 ∷ 0x00 ∷ 0x02 ∷ []) (on_ef 3 (Some 1)) (with_ring ((0x00 ∷ 0x00 ∷ 0x06 ∷ []) ∷ (0x00 ∷ 0x00 ∷ 0x04 ∷ []) ∷ (0x00 ∷ 0x00 ∷ 0x03 ∷ []) ∷ [])) (PutNewest 3 (0x00 ∷ 0x00 ∷ 0x06 ∷ []))
unfolding refused_if given and_given descriptor_in descriptors_in file_found held_by arr_found ruling_record may with_file_changed addressed record_file sum_to_write increasing increase_in increased
the_sum_and_what_was_added = refl

-- 8032000003FFFFFF answers 9850
too_much : increased (with_ring ((0x00 ∷ 0x00 ∷ 0x04 ∷ []) ∷ (0x00 ∷ 0x00 ∷ 0x03 ∷ []) ∷ (0x00 ∷ 0x00 ∷ 0x02 ∷ []) ∷ [])) nothing_verified (on_ef 3 None) (command 0x80 0x32 0x00 0x00 (0xFF ∷ 0xFF ∷ 0xFF ∷ []) None) ≡ refused 0x9850
unfolding refused_if given and_given descriptor_in descriptors_in file_found held_by arr_found ruling_record may with_file_changed addressed record_file sum_to_write increasing increase_in increased
too_much = refl

-- 80328300010100 answers 000005019000
by_its_short_identifier : increased (with_ring ((0x00 ∷ 0x00 ∷ 0x04 ∷ []) ∷ (0x00 ∷ 0x00 ∷ 0x03 ∷ []) ∷ (0x00 ∷ 0x00 ∷ 0x02 ∷ []) ∷ [])) nothing_verified AT_START (command 0x80 0x32 0x83 0x00 (0x01 ∷ []) (Some 256)) ≡ committed (0x00 ∷ 0x00 ∷ 0x05 ∷ 0x01 ∷ []) (on_ef 3 (Some 1)) (with_ring ((0x00 ∷ 0x00 ∷ 0x05 ∷ []) ∷ (0x00 ∷ 0x00 ∷ 0x04 ∷ []) ∷ (0x00 ∷ 0x00 ∷ 0x03 ∷ []) ∷ [])) (PutNewest 3 (0x00 ∷ 0x00 ∷ 0x05 ∷ []))
unfolding refused_if given and_given descriptor_in descriptors_in file_found held_by arr_found ruling_record may with_file_changed addressed record_file sum_to_write increasing increase_in increased
by_its_short_identifier = refl

-- 803200000101 answers 6981
no_ring : increased card nothing_verified (on_ef 2 None) (command 0x80 0x32 0x00 0x00 (0x01 ∷ []) None) ≡ refused 0x6981
unfolding refused_if given and_given descriptor_in descriptors_in file_found held_by arr_found ruling_record may with_file_changed addressed record_file sum_to_write increasing increase_in increased
no_ring = refl

-- 80320000050000000000 answers 6981
no_ring_and_too_long : increased card nothing_verified (on_ef 2 None) (command 0x80 0x32 0x00 0x00 (0x00 ∷ 0x00 ∷ 0x00 ∷ 0x00 ∷ 0x00 ∷ []) None) ≡ refused 0x6981
unfolding refused_if given and_given descriptor_in descriptors_in file_found held_by arr_found ruling_record may with_file_changed addressed record_file sum_to_write increasing increase_in increased
no_ring_and_too_long = refl

-- 803200000401FFFFFF answers 6700
too_long_and_too_much : increased (with_ring ((0x00 ∷ 0x00 ∷ 0x04 ∷ []) ∷ (0x00 ∷ 0x00 ∷ 0x03 ∷ []) ∷ (0x00 ∷ 0x00 ∷ 0x02 ∷ []) ∷ [])) nothing_verified (on_ef 3 None) (command 0x80 0x32 0x00 0x00 (0x01 ∷ 0xFF ∷ 0xFF ∷ 0xFF ∷ []) None) ≡ refused 0x6700
unfolding refused_if given and_given descriptor_in descriptors_in file_found held_by arr_found ruling_record may with_file_changed addressed record_file sum_to_write increasing increase_in increased
too_long_and_too_much = refl
