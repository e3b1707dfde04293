-- READ RECORD, UPDATE RECORD, SEARCH RECORD and INCREASE (ETSI TS 102 221, 11.1.5 to 11.1.8).
use Rattle.std.specs.Prelude.{ℕ, zero, suc, ◌+◌, ◌-◌, ◌*◌, ◌/◌, ◌%◌, ◌^◌, ◌==◌, not, ◌&&◌, ◌||◌, nat_lt, nat_le, Bool, if◌then◌else◌, List, [], ◌∷◌, ◌++◌, length, filter, reverse, slice_index_or, Option, Some, None, unwrap_or, Result, Ok}
use Rattle.std.specs.List.{range_with_len, starts_with}
use Rattle.uicc_types.specs.declared.answers.StatusWord.{StatusWord}
use Rattle.uicc_types.specs.declared.answers.TheConstants.StatusWord.{DONE, END_OF_FILE, WRONG_PARAMETERS, WRONG_LENGTH, WRONG_STRUCTURE, CONDITIONS_NOT_SATISFIED, SECURITY_NOT_SATISFIED, RECORD_NOT_FOUND, OVERFLOW}
use Rattle.apdu_form.specs.Model.{Apdu}
use Rattle.card_state.specs.Changes.{PutRecord, PutNewest}
use Rattle.card_state.specs.Kinds.{cyclic_kind, has_records}
use Rattle.card_state.specs.Persistent.{Persistent}
use Rattle.card_state.specs.Changing.{with_record, with_newest_record}
use Rattle.access_rules.specs.declared.rules.Op.TheVariants.{ReadRecord, UpdateRecord, Search, Increase}
use Rattle.access_rules.specs.declared.rules.Verified.{Verified}
use Rattle.file_model.specs.declared.descriptors.Descriptor.{Descriptor}
use Rattle.file_model.specs.declared.selections.Selection.{Selection}
use Rattle.file_model.specs.Chains.{refused_if, given, and_given, needs}
use Rattle.file_model.specs.Files.{descriptors_in}
use Rattle.file_model.specs.Access.{may}
use Rattle.file_model.specs.Holdings.{records_in}
use Rattle.apdu_form.specs.Fields.{has_data, has_le_alone}
use Rattle.file_model.specs.Outcomes.{FileOutcome, addressed, is_deactivated, pointer_before, worked_on}

-- ---- P1 and P2

-- the short file identifier in b8 to b4 of P2; 0 stands for the current EF
abbrev pub short_bits : Apdu → ℕ
short_bits apdu = apdu.p2 / 8

-- what b3 to b1 of P2 say: the next record, the one before, the one that P1 names
abbrev pub mode_bits : Apdu → ℕ
mode_bits apdu = apdu.p2 % 8

-- b3 to b1 are 010: the next record
abbrev pub next_mode : ℕ
next_mode = 2

-- b3 to b1 are 011: the previous record
abbrev pub previous_mode : ℕ
previous_mode = 3

-- b3 to b1 are 100: the record that P1 names, or the current one where P1 is 00
abbrev pub absolute_mode : ℕ
absolute_mode = 4

-- P1 names a record in absolute mode alone
abbrev pub has_record_parameters : Apdu → Bool
has_record_parameters apdu =
    not (short_bits apdu == 31)
    && (mode_bits apdu == absolute_mode || (mode_bits apdu == next_mode || mode_bits apdu == previous_mode) && apdu.p1 == 0)

-- the short file identifier in P2, if there is one
abbrev pub short_in_p2 : Apdu → Option ℕ
short_in_p2 apdu = if short_bits apdu == 0 then None else Some (short_bits apdu)

-- ---- which record

-- a cyclic EF
abbrev pub is_cyclic : Descriptor → Bool
is_cyclic file = file.kind == cyclic_kind

-- the record after this one; without a record pointer it is the first. After the last of a cyclic file comes its first; after that of a linear
-- fixed one there is none.
abbrev pub next_record : Descriptor → Option ℕ → Option ℕ
next_record file None = Some 1
next_record file (Some pointer) = if nat_lt pointer file.count then Some (pointer + 1) else (if is_cyclic file then Some 1 else None)

-- the record before this one; without a record pointer it is the last. Before the first of a cyclic file comes its last; before that of a linear
-- fixed one there is none.
abbrev pub previous_record : Descriptor → Option ℕ → Option ℕ
previous_record file None = Some file.count
previous_record file (Some pointer) = if nat_lt 1 pointer then Some (pointer - 1) else (if is_cyclic file then Some file.count else None)

-- the record with this number, where 0 stands for the one at the record pointer
abbrev pub absolute_record : Descriptor → ℕ → Option ℕ → Option ℕ
absolute_record file number pointer =
    if number == 0 then pointer
    else if nat_le number file.count then Some number
    else None

-- the number of the record that a command names
unfoldable pub record_named : Descriptor → Apdu → Option ℕ → Option ℕ
record_named file apdu pointer =
    if mode_bits apdu == next_mode then next_record file pointer
    else if mode_bits apdu == previous_mode then previous_record file pointer
    else absolute_record file apdu.p1 pointer

-- the record pointer after it: next and previous move it, absolute leaves it
abbrev pub pointer_after : Apdu → ℕ → Option ℕ → Option ℕ
pointer_after apdu number pointer = if mode_bits apdu == absolute_mode then pointer else Some number

-- ---- before access is tested

-- the EF that a command works on, or what refuses it; whether its P1 and P2, and its data and Le, are as they have to be is given, and
-- of which structure the file has to be
unfoldable pub record_file : Bool → Bool → (Descriptor → Bool) → List Descriptor → Selection → Option ℕ → Result Descriptor StatusWord
record_file has_parameters has_length fits files selection short =
    needs has_parameters WRONG_PARAMETERS (
    needs has_length WRONG_LENGTH (
    and_given (addressed files selection short) (λ file.
    needs (fits file) WRONG_STRUCTURE (
    refused_if (is_deactivated file) CONDITIONS_NOT_SATISFIED (
    Ok file)))))

-- ---- READ RECORD

-- `6CXX`: this many bytes may be asked for
abbrev pub other_length : ℕ → StatusWord
other_length count = record { 0 = 0x6C00 + count }

-- so many bytes may be asked for: 256 stands for the length of a record
abbrev pub is_record_length : Descriptor → ℕ → Bool
is_record_length file expected = expected == 256 || expected == file.width

-- the record is answered whole, and becomes the current one unless it was named by P1
unfoldable pub record_reading : Persistent → Selection → Apdu → Descriptor → ℕ → FileOutcome
record_reading state selection apdu file number = record {
  body = slice_index_or (records_in state file.number) (number - 1) [];
  status = DONE;
  selection = worked_on selection file (pointer_after apdu number (pointer_before selection (short_in_p2 apdu)));
  passed = [];
  changes = [];
}

-- the EF of READ RECORD, which has records, or what refuses the command
abbrev pub file_to_read : List Descriptor → Selection → Apdu → Result Descriptor StatusWord
file_to_read files selection apdu = record_file (has_record_parameters apdu) (has_le_alone apdu) (λ file. has_records file.kind) files selection (short_in_p2 apdu)

-- the number of the record that is read
unfoldable pub number_to_read : Descriptor → Selection → Apdu → Result ℕ StatusWord
number_to_read file selection apdu =
    given (record_named file apdu (pointer_before selection (short_in_p2 apdu))) RECORD_NOT_FOUND (λ number.
    needs (is_record_length file (unwrap_or apdu.expected 0)) (other_length file.width) (
    Ok number))

-- from the test of access on: the record has to be there, and Le has to be its length
unfoldable pub record_read_from : Persistent → Verified → Selection → Apdu → Descriptor → Result FileOutcome StatusWord
record_read_from state seen selection apdu file =
    needs (may state ReadRecord seen file) SECURITY_NOT_SATISFIED (
    and_given (number_to_read file selection apdu) (λ number.
    Ok (record_reading state selection apdu file number)))

-- READ RECORD: what it comes to, or its refusal
unfoldable pub record_read : Persistent → Verified → Selection → Apdu → Result FileOutcome StatusWord
record_read state seen selection apdu = and_given (file_to_read (descriptors_in state) selection apdu) (record_read_from state seen selection apdu)

-- ---- UPDATE RECORD

-- a cyclic file takes a new first record alone, by the mode for the one before
abbrev pub may_be_updated : Descriptor → Apdu → Bool
may_be_updated file apdu = has_records file.kind && (not (is_cyclic file) || mode_bits apdu == previous_mode)

-- the new first record of a cyclic file is the current one then
abbrev pub number_updated : Descriptor → Apdu → Option ℕ → Option ℕ
number_updated file apdu pointer = if is_cyclic file then Some 1 else record_named file apdu pointer

-- the data take the place of the record, or are the new first record of a cyclic file
unfoldable pub record_updating : Persistent → Selection → Apdu → Descriptor → ℕ → FileOutcome
record_updating state selection apdu file number = record {
  body = [];
  status = DONE;
  selection = worked_on selection file (pointer_after apdu number (pointer_before selection (short_in_p2 apdu)));
  passed = (if is_cyclic file then with_newest_record file.number apdu.body state else with_record file.number (number - 1) apdu.body state) ∷ [];
  changes = (if is_cyclic file then PutNewest file.number apdu.body else PutRecord file.number (number - 1) apdu.body) ∷ [];
}

-- the EF of UPDATE RECORD, which may be updated in this mode, or what refuses the command
abbrev pub file_to_update : List Descriptor → Selection → Apdu → Result Descriptor StatusWord
file_to_update files selection apdu = record_file (has_record_parameters apdu) (has_data apdu) (λ file. may_be_updated file apdu) files selection (short_in_p2 apdu)

-- the number of the record that is updated
unfoldable pub number_to_update : Descriptor → Selection → Apdu → Result ℕ StatusWord
number_to_update file selection apdu =
    given (number_updated file apdu (pointer_before selection (short_in_p2 apdu))) RECORD_NOT_FOUND (λ number.
    needs (length apdu.body == file.width) WRONG_LENGTH (
    Ok number))

-- from the test of access on: the record has to be there, and the data have to be as long as a record
unfoldable pub record_update_in : Persistent → Verified → Selection → Apdu → Descriptor → Result FileOutcome StatusWord
record_update_in state seen selection apdu file =
    needs (may state UpdateRecord seen file) SECURITY_NOT_SATISFIED (
    and_given (number_to_update file selection apdu) (λ number.
    Ok (record_updating state selection apdu file number)))

-- UPDATE RECORD: what it comes to, or its refusal
unfoldable pub record_updated : Persistent → Verified → Selection → Apdu → Result FileOutcome StatusWord
record_updated state seen selection apdu = and_given (file_to_update (descriptors_in state) selection apdu) (record_update_in state seen selection apdu)

-- ---- SEARCH RECORD

-- b3 to b1 are 100: a simple search forward from the record that P1 names
abbrev pub forward_mode : ℕ
forward_mode = 4

-- b3 to b1 are 101: a simple search backward from it
abbrev pub backward_mode : ℕ
backward_mode = 5

-- a simple search, forward or backward; 31 is no short file identifier
abbrev pub has_search_parameters : Apdu → Bool
has_search_parameters apdu = not (short_bits apdu == 31) && (mode_bits apdu == forward_mode || mode_bits apdu == backward_mode)

-- the bytes stand in the record one after the other
abbrev pub has_within : List ℕ → List ℕ → Bool
has_within wanted [] = length wanted == 0
has_within wanted (byte ∷ bytes) = starts_with (λ a b. a == b) (byte ∷ bytes) wanted || has_within wanted bytes

-- the numbers of the records from this one on, to the last, or back to the first
abbrev pub numbers_searched : Descriptor → Apdu → ℕ → List ℕ
numbers_searched file apdu from = if mode_bits apdu == forward_mode then range_with_len from (file.count + 1 - from) else reverse (range_with_len 1 from)

-- those of the records that match
unfoldable pub numbers_matched : Persistent → Descriptor → Apdu → ℕ → List ℕ
numbers_matched state file apdu from =
    filter (λ number. has_within apdu.body (slice_index_or (records_in state file.number) (number - 1) [])) (numbers_searched file apdu from)

-- the first record that matches becomes the current one; where none does, a warning
abbrev pub match_pointer : Option ℕ → List ℕ → Option ℕ
match_pointer pointer [] = pointer
match_pointer pointer (number ∷ numbers) = Some number

-- the numbers of the records that match, in the order of the search, or else a warning; the first of them is the current record then
unfoldable pub searching : Persistent → Selection → Apdu → Descriptor → ℕ → FileOutcome
searching state selection apdu file from =
    let numbers = numbers_matched state file apdu from in
    record {
      body = numbers;
      status = if length numbers == 0 then END_OF_FILE else DONE;
      selection = worked_on selection file (match_pointer (pointer_before selection (short_in_p2 apdu)) numbers);
      passed = [];
      changes = [];
    }

-- the EF of SEARCH RECORD, which has records, or what refuses the command
abbrev pub file_to_search : List Descriptor → Selection → Apdu → Result Descriptor StatusWord
file_to_search files selection apdu = record_file (has_search_parameters apdu) (has_data apdu) (λ file. has_records file.kind) files selection (short_in_p2 apdu)

-- where the search begins
unfoldable pub number_to_search : Descriptor → Selection → Apdu → Result ℕ StatusWord
number_to_search file selection apdu =
    given (absolute_record file apdu.p1 (pointer_before selection (short_in_p2 apdu))) RECORD_NOT_FOUND (λ from.
    refused_if (nat_lt file.width (length apdu.body)) WRONG_LENGTH (
    Ok from))

-- from the test of access on: the record where the search begins has to be there, and the data may not be longer than a record
unfoldable pub search_in : Persistent → Verified → Selection → Apdu → Descriptor → Result FileOutcome StatusWord
search_in state seen selection apdu file =
    needs (may state Search seen file) SECURITY_NOT_SATISFIED (
    and_given (number_to_search file selection apdu) (λ from.
    Ok (searching state selection apdu file from)))

-- SEARCH RECORD: what it comes to, or its refusal
unfoldable pub searched : Persistent → Verified → Selection → Apdu → Result FileOutcome StatusWord
searched state seen selection apdu = and_given (file_to_search (descriptors_in state) selection apdu) (search_in state seen selection apdu)

-- ---- INCREASE

-- the current EF, or a short file identifier after b8
abbrev pub has_increase_parameters : Apdu → Bool
has_increase_parameters apdu = (apdu.p1 == 0x00 || nat_le 0x81 apdu.p1 && nat_le apdu.p1 0x9E) && apdu.p2 == 0x00

-- 1 to 127 bytes of data
abbrev pub has_increase_length : Apdu → Bool
has_increase_length apdu = nat_le 1 (length apdu.body) && nat_le (length apdu.body) 127

-- the short file identifier in P1; P1 00 stands for the current EF
abbrev pub short_to_increase : Apdu → Option ℕ
short_to_increase apdu = if apdu.p1 == 0x00 then None else Some (apdu.p1 - 0x80)

-- a cyclic EF with records of at most 127 bytes
abbrev pub may_be_increased : Descriptor → Bool
may_be_increased file = is_cyclic file && nat_le file.width 127

-- bytes as a number, the highest first
abbrev pub number_of : List ℕ → ℕ
number_of [] = 0
number_of (byte ∷ bytes) = byte * 256 ^ length bytes + number_of bytes

-- a number in so many bytes
abbrev pub bytes_of : ℕ → ℕ → List ℕ
bytes_of zero number = []
bytes_of (suc width) number = (number / 256 ^ width) % 256 ∷ bytes_of width number

-- the first record and the data as one number
abbrev pub sum_of : Persistent → Descriptor → Apdu → ℕ
sum_of state file apdu = number_of (slice_index_or (records_in state file.number) 0 []) + number_of apdu.body

-- the sum is the new first record, and is answered before what was added
unfoldable pub increasing : Persistent → Selection → Apdu → Descriptor → List ℕ → FileOutcome
increasing state selection apdu file sum = record {
  body = sum ++ apdu.body;
  status = DONE;
  selection = worked_on selection file (Some 1);
  passed = with_newest_record file.number sum state ∷ [];
  changes = PutNewest file.number sum ∷ [];
}

-- the EF of INCREASE, which may be increased, or what refuses the command
abbrev pub file_to_increase : List Descriptor → Selection → Apdu → Result Descriptor StatusWord
file_to_increase files selection apdu = record_file (has_increase_parameters apdu) (has_increase_length apdu) may_be_increased files selection (short_to_increase apdu)

-- the sum, in the bytes of a record
unfoldable pub sum_to_write : Persistent → Apdu → Descriptor → Result (List ℕ) StatusWord
sum_to_write state apdu file =
    refused_if (nat_lt file.width (length apdu.body)) WRONG_LENGTH (
    refused_if (nat_le (256 ^ file.width) (sum_of state file apdu)) OVERFLOW (
    Ok (bytes_of file.width (sum_of state file apdu))))

-- from the test of access on: the data may not be longer than a record, and the sum has to fit into one
unfoldable pub increase_in : Persistent → Verified → Selection → Apdu → Descriptor → Result FileOutcome StatusWord
increase_in state seen selection apdu file =
    needs (may state Increase seen file) SECURITY_NOT_SATISFIED (
    and_given (sum_to_write state apdu file) (λ sum.
    Ok (increasing state selection apdu file sum)))

-- INCREASE: what it comes to, or its refusal
unfoldable pub increased : Persistent → Verified → Selection → Apdu → Result FileOutcome StatusWord
increased state seen selection apdu = and_given (file_to_increase (descriptors_in state) selection apdu) (increase_in state seen selection apdu)
