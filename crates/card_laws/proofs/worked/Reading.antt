-- What commands on files are refused for, and what is told of a file, worked out.
use Rattle.std.proofs.Common.{◌≡◌, ℕ, true, false, List, [], ◌∷◌, drop, Option, Some, None, refl}
use Rattle.apdu_form.specs.Model.{Apdu}
use Rattle.card_state.specs.Persistent.{Bytes, File, Persistent, Records}
use Rattle.card_state.specs.Soundness.{mf}
use Rattle.access_rules.specs.Objects.{object}
use Rattle.access_rules.specs.Reading.{length_in, part_in, part_of}
use Rattle.access_rules.specs.declared.rules.Verified.{Verified}
use Rattle.file_model.specs.Rooms.{room_at}
use Rattle.file_model.specs.Access.{arr_found, may, ruling_record}
use Rattle.file_model.specs.Fcp.{fcp}
use Rattle.file_model.specs.Files.{descriptor_in, descriptors_in, file_found}
use Rattle.file_model.specs.Records.{record_named}
use Rattle.file_model.specs.Selections.{chosen, chosen_by_identifier}
use Rattle.file_model.specs.declared.selections.Selection.{Selection}
use Rattle.card_laws.specs.Fcp.{objects_in}
use Rattle.card_laws.specs.Refusals.{Refusal, refusals_of_delete, refusals_of_read_binary, refusals_of_read_record, refusals_of_resize, refusals_of_select}

-- a file of ten bytes, one of two records of four bytes, and one of four bytes that is deactivated and whose rule isn't there
abbrev pub number_file : File
number_file = record {
  number = 1;
  parent = 0;
  kind = 0x41;
  id = 0x2FE2;
  short = 2;
  life = 5;
  rule = None;
  place = 3968;
  size = 10;
  contents = Bytes (0x98 ∷ 0x10 ∷ 0x10 ∷ 0x32 ∷ 0x54 ∷ 0x76 ∷ 0x98 ∷ 0x10 ∷ 0x32 ∷ 0x54 ∷ []);
}

abbrev pub names_file : File
names_file = record {
  number = 2;
  parent = 0;
  kind = 0x42;
  id = 0x6F3A;
  short = 1;
  life = 5;
  rule = None;
  place = 3978;
  size = 8;
  contents = Records ((0x41 ∷ 0xFF ∷ 0xFF ∷ 0xFF ∷ []) ∷ (0x42 ∷ 0xFF ∷ 0xFF ∷ 0xFF ∷ []) ∷ []);
}

abbrev pub quiet_file : File
quiet_file = record {
  number = 3;
  parent = 0;
  kind = 0x41;
  id = 0x6F07;
  short = 0;
  life = 4;
  rule = Some (record { arr = 0x2F06; number = 1 });
  place = 3986;
  size = 4;
  contents = Bytes (0x01 ∷ 0x02 ∷ 0x03 ∷ 0x04 ∷ []);
}

abbrev pub card : Persistent
card = record { is_wide = true; files = mf ∷ number_file ∷ names_file ∷ quiet_file ∷ []; pins = []; rows = []; next_sequence = 0 }

abbrev nothing_verified : Verified
nothing_verified = record { pin1 = false; pin2 = false; adm1 = false }

abbrev on_ef : Option ℕ → Selection
on_ef ef = record { df = 0; ef = ef; pointer = None }

abbrev command : ℕ → ℕ → ℕ → List ℕ → Option ℕ → Apdu
command ins p1 p2 body expected = record { class = 0x00; ins = ins; p1 = p1; p2 = p2; body = body; expected = expected }

abbrev holds : ℕ → Refusal
holds number = (true, record { 0 = number })

abbrev lacks : ℕ → Refusal
lacks number = (false, record { 0 = number })

-- 00B0000A02 begins after the end of the file, and nothing else speaks against it
past_the_end : refusals_of_read_binary card nothing_verified (on_ef (Some 1)) (command 0xB0 0x00 0x0A [] (Some 2))
    ≡ lacks 0x6A86 ∷ lacks 0x6700 ∷ lacks 0x6986 ∷ lacks 0x6981 ∷ lacks 0x6985 ∷ lacks 0x6982 ∷ holds 0x6B00 ∷ []
unfolding descriptor_in descriptors_in file_found may arr_found ruling_record
past_the_end = refl

-- 00B0000001 of the file that is deactivated and may not be read: 6985 comes before 6982
two_reasons : refusals_of_read_binary card nothing_verified (on_ef (Some 3)) (command 0xB0 0x00 0x00 [] (Some 1))
    ≡ lacks 0x6A86 ∷ lacks 0x6700 ∷ lacks 0x6986 ∷ lacks 0x6981 ∷ holds 0x6985 ∷ holds 0x6982 ∷ lacks 0x6B00 ∷ []
unfolding descriptor_in descriptors_in file_found may arr_found ruling_record
two_reasons = refl

-- 00B0840001: no file has this short file identifier, and no file is asked about
no_file : refusals_of_read_binary card nothing_verified (on_ef (Some 1)) (command 0xB0 0x84 0x00 [] (Some 1)) ≡ lacks 0x6A86 ∷ lacks 0x6700 ∷ holds 0x6A82 ∷ []
unfolding descriptor_in descriptors_in file_found may arr_found ruling_record
no_file = refl

-- 00B2030C05: there is no third record, and a record has four bytes
no_third_record : refusals_of_read_record card nothing_verified (on_ef None) (command 0xB2 0x03 0x0C [] (Some 5))
    ≡ lacks 0x6A86 ∷ lacks 0x6700 ∷ lacks 0x6A82 ∷ lacks 0x6981 ∷ lacks 0x6985 ∷ lacks 0x6982 ∷ holds 0x6A83 ∷ holds 0x6C04 ∷ []
unfolding descriptor_in descriptors_in file_found may arr_found ruling_record record_named
no_third_record = refl

-- 00A40004026F99: no file that can be reached from the MF has this identifier
not_reached : refusals_of_select card nothing_verified (on_ef None) (command 0xA4 0x00 0x04 (0x6F ∷ 0x99 ∷ []) None) ≡ lacks 0x6A86 ∷ lacks 0x6700 ∷ holds 0x6A82 ∷ []
unfolding descriptor_in descriptors_in file_found chosen chosen_by_identifier
not_reached = refl

-- 00E40000022FE2: the file is there, and ADM1 isn't verified
no_leave_to_delete : refusals_of_delete card nothing_verified (Some (on_ef None) ∷ []) 0 (command 0xE4 0x00 0x00 (0x2F ∷ 0xE2 ∷ []) None)
    ≡ lacks 0x6A86 ∷ lacks 0x6700 ∷ lacks 0x6A82 ∷ holds 0x6982 ∷ lacks 0x6985 ∷ []
unfolding descriptor_in descriptors_in file_found
no_leave_to_delete = refl

-- 80D40000046F070000 asks for no byte at all, of a file that is deactivated: 6985 comes before 6982, and that before 6A80
three_reasons : refusals_of_resize card nothing_verified (Some (on_ef None) ∷ []) 0 (command 0xD4 0x00 0x00 (0x6F ∷ 0x07 ∷ 0x00 ∷ 0x00 ∷ []) None)
    ≡ lacks 0x6A86 ∷ lacks 0x6700 ∷ lacks 0x6A82 ∷ lacks 0x6981 ∷ holds 0x6985 ∷ holds 0x6982 ∷ holds 0x6A80 ∷ lacks 0x6A84 ∷ []
unfolding descriptor_in descriptors_in file_found room_at
three_reasons = refl

-- ---- what is told of a file

-- what SELECT answers of the file with records: 82, 83, 8A, 80 and 88
told_of_records : objects_in (drop 2 (fcp [] (descriptor_in names_file)))
    ≡ Some ((0x82, 0x42 ∷ 0x21 ∷ 0x00 ∷ 0x04 ∷ 0x02 ∷ []) ∷ (0x83, 0x6F ∷ 0x3A ∷ []) ∷ (0x8A, 0x05 ∷ []) ∷ (0x80, 0x00 ∷ 0x08 ∷ []) ∷ (0x88, 0x08 ∷ []) ∷ [])
unfolding fcp descriptor_in object objects_in part_in part_of length_in
told_of_records = refl

-- of one with a rule and without a short file identifier
told_of_a_rule : objects_in (drop 2 (fcp [] (descriptor_in quiet_file)))
    ≡ Some ((0x82, 0x41 ∷ 0x21 ∷ []) ∷ (0x83, 0x6F ∷ 0x07 ∷ []) ∷ (0x8A, 0x04 ∷ []) ∷ (0x8B, 0x2F ∷ 0x06 ∷ 0x01 ∷ []) ∷ (0x80, 0x00 ∷ 0x04 ∷ []) ∷ (0x88, []) ∷ [])
unfolding fcp descriptor_in object objects_in part_in part_of length_in
told_of_a_rule = refl

-- bytes that end inside an object are none
cut_off : objects_in (0x83 ∷ 0x02 ∷ 0x6F ∷ []) ≡ None
unfolding objects_in part_in part_of length_in
cut_off = refl

-- ---- a journal in the memory
