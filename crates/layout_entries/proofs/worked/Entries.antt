-- The definitions, worked out on examples.
use Rattle.std.proofs.Common.{zero, suc, ◌≡◌, ℕ, ◌<◌, true, false, List, [], ◌∷◌, ◌++◌, replicate, Some, None, Ok, Err, refl, arith, Contains}
use Rattle.std.specs.List.{list_all}
use Rattle.list_laws.specs.Patches.{patched}
use Rattle.uicc_types.specs.declared.identifiers.FileId.{FileId}
use Rattle.card_state.specs.declared.entries.Loaded.{Loaded}
use Rattle.card_state.specs.declared.shapes.Shape.TheVariants.{Transparent, Linear, Cyclic}
use Rattle.card_state.specs.declared.faults.SectionFault.TheVariants.{Bad}
use Rattle.card_state.specs.Kinds.{cyclic_kind, known_codes}
use Rattle.card_state.specs.Persistent.{Files, Bytes, Records, Persistent}
use Rattle.card_state.specs.Sections.{SectionLine, DfLine, EfLine, FillLine, RecordLine, PinLine, RowLine, made, bare_card}
use Rattle.card_state.specs.Checks.{is_node, first_failed}
use Rattle.card_state.specs.Decoding.{node_of}
use Rattle.card_state.specs.States.{files_of, rows_of, contents_of, state_of}
use Rattle.card_state.specs.Soundness.{mf, AreEventCodes}
use Rattle.card_state.proofs.AreEventCodesLemmas.{codes_known}
use Rattle.card_state.specs.StateLaws.{file_with_number, pin_with_key, text_count_of}
use Rattle.card_state.specs.Blank.{unused_node, unused_row}
use Rattle.layout_entries.specs.Spelling.{version_part}
use Rattle.layout_entries.specs.Fields.{node_fields, is_uncut, merged_node, kept_anew, overwritten}

abbrev id : ℕ → List FileId
id number = record { 0 = number } ∷ []

-- the file of a subscriber's number, two records of four bytes, three of three in a ring, and two PINs
abbrev card : List SectionLine
card =
    EfLine (id 0x2FE2) (Transparent 10) (Some 2) None
    ∷ FillLine (id 0x2FE2) 0 (0x98 ∷ 0x10 ∷ 0x10 ∷ 0x32 ∷ 0x54 ∷ 0x76 ∷ 0x98 ∷ 0x10 ∷ 0x32 ∷ 0x54 ∷ [])
    ∷ EfLine (id 0x6F3A) (Linear 4 2) (Some 1) None ∷ RecordLine (id 0x6F3A) 1 (0x41 ∷ []) ∷ RecordLine (id 0x6F3A) 2 (0x42 ∷ [])
    ∷ EfLine (id 0x6F39) (Cyclic 3 3) (Some 3) None
    ∷ PinLine 0x01 (0x31 ∷ 0x32 ∷ 0x33 ∷ 0x34 ∷ 0xFF ∷ 0xFF ∷ 0xFF ∷ 0xFF ∷ []) true (0x31 ∷ 0x32 ∷ 0x33 ∷ 0x34 ∷ 0x35 ∷ 0x36 ∷ 0x37 ∷ 0x38 ∷ [])
    ∷ PinLine 0x0A (replicate 8 0x38) true (replicate 8 0x30) ∷ []

abbrev made_card : Persistent
made_card = record {
  is_wide = true;
  files = mf
      ∷ record { number = 1; parent = 0; kind = 0x41; id = 0x2FE2; short = 2; life = 5; rule = None; place = 3968; size = 10; contents = Bytes (0x98 ∷ 0x10 ∷ 0x10 ∷ 0x32 ∷ 0x54 ∷ 0x76 ∷ 0x98 ∷ 0x10 ∷ 0x32 ∷ 0x54 ∷ []) }
      ∷ record { number = 2; parent = 0; kind = 0x42; id = 0x6F3A; short = 1; life = 5; rule = None; place = 3978; size = 8; contents = Records ((0x41 ∷ 0xFF ∷ 0xFF ∷ 0xFF ∷ []) ∷ (0x42 ∷ 0xFF ∷ 0xFF ∷ 0xFF ∷ []) ∷ []) }
      ∷ record { number = 3; parent = 0; kind = 0x46; id = 0x6F39; short = 3; life = 5; rule = None; place = 3986; size = 9; contents = Records (replicate 3 (replicate 3 0xFF)) } ∷ [];
  pins = record { key = 0x01; is_enabled = true; tries = 3; unblock_tries = 10; value = 0x31 ∷ 0x32 ∷ 0x33 ∷ 0x34 ∷ 0xFF ∷ 0xFF ∷ 0xFF ∷ 0xFF ∷ []; unblock = 0x31 ∷ 0x32 ∷ 0x33 ∷ 0x34 ∷ 0x35 ∷ 0x36 ∷ 0x37 ∷ 0x38 ∷ [] }
      ∷ record { key = 0x0A; is_enabled = true; tries = 3; unblock_tries = 10; value = replicate 8 0x38; unblock = replicate 8 0x30 } ∷ [];
  rows = [];
  next_sequence = 0;
}

-- each file stands after the one before
a_card_is_made : made card ≡ Ok made_card
unfolding patched
a_card_is_made = refl

a_second_df_is_bad : made (DfLine (id 0x7F10) ∷ DfLine (id 0x7F10) ∷ []) ≡ Err Bad
a_second_df_is_bad = refl

a_file_in_a_df : made (DfLine (id 0x7F10) ∷ EfLine (record { 0 = 0x7F10 } ∷ record { 0 = 0x6F3C } ∷ []) (Transparent 1) None None ∷ [])
    ≡ Ok (record bare_card {
      files = mf
          ∷ record { number = 1; parent = 0; kind = 0x78; id = 0x7F10; short = 0; life = 5; rule = None; place = 0; size = 0; contents = Files }
          ∷ record { number = 2; parent = 1; kind = 0x41; id = 0x6F3C; short = 0; life = 5; rule = None; place = 3968; size = 1; contents = Bytes (0xFF ∷ []) } ∷ [];
    })
a_file_in_a_df = refl

-- a row for profile download without a text, and a second one on its shelf
abbrev greeter : SectionLine
greeter = RowLine 0 1 (0x01 ∷ 0x40 ∷ 0x00 ∷ []) (Some 1)

a_row_takes_the_next_number : made (greeter ∷ []) ≡ Ok (record bare_card { rows = record { shelf = 0; kind = 1; priority = 1; sequence = 0; codes = 0x40 ∷ []; text = []; kept = [] } ∷ []; next_sequence = 1 })
a_row_takes_the_next_number = refl

a_shelf_has_one_row : made (greeter ∷ greeter ∷ []) ≡ Err Bad
a_shelf_has_one_row = refl

-- the bytes of the first file's entry
abbrev numbers : List ℕ
numbers = 0x01 ∷ 0x41 ∷ 0x2F ∷ 0xE2 ∷ 0x00 ∷ 0x02 ∷ 0x05 ∷ 0x00 ∷ 0x00 ∷ 0x00 ∷ 0x0F ∷ 0x80 ∷ 0x00 ∷ 0x0A ∷ 0x00 ∷ 0x00 ∷ []

abbrev mf_bytes : List ℕ
mf_bytes = 0x01 ∷ 0x78 ∷ 0x3F ∷ 0x00 ∷ replicate 12 0

the_mf_passes : is_node true 0 [] mf_bytes (node_of mf_bytes) ≡ true
unfolding node_of
the_mf_passes = refl

a_file_passes : is_node true 1 (node_of mf_bytes ∷ []) numbers (node_of numbers) ≡ true
unfolding node_of
a_file_passes = refl

-- no other file has the identifier of the MF
not_as_the_mf : (let bytes = 0x01 ∷ 0x41 ∷ 0x3F ∷ 0x00 ∷ 0x00 ∷ 0x02 ∷ 0x05 ∷ 0x00 ∷ 0x00 ∷ 0x00 ∷ 0x0F ∷ 0x80 ∷ 0x00 ∷ 0x0A ∷ 0x00 ∷ 0x00 ∷ [] in
    is_node true 1 (node_of mf_bytes ∷ []) bytes (node_of bytes)) ≡ false
unfolding node_of
not_as_the_mf = refl

-- the record at the head is the first
a_ring_from_its_head : contents_of (1 ∷ 2 ∷ 3 ∷ 4 ∷ 5 ∷ 6 ∷ []) (record unused_node { kind = cyclic_kind; size = 6; length = 2; head = 1 })
    ≡ Records ((3 ∷ 4 ∷ []) ∷ (5 ∷ 6 ∷ []) ∷ (1 ∷ 2 ∷ []) ∷ [])
unfolding contents_of
a_ring_from_its_head = refl

the_first_failure_counts : first_failed (record { place = 0; is_met = true } ∷ record { place = 4; is_met = false } ∷ record { place = 5; is_met = false } ∷ []) ≡ Some 4
the_first_failure_counts = refl

-- a part of one byte is the life cycle
one_field_is_written : merged_node 6 7 (node_of numbers) (record unused_node { life = 4 }) ≡ record (node_of numbers) { life = 4 }
unfolding merged_node
one_field_is_written = refl

-- place and size
two_fields_are_written : merged_node 10 14 (node_of numbers) (record unused_node { place = 4000; size = 20 }) ≡ record (node_of numbers) { place = 4000; size = 20 }
unfolding merged_node
two_fields_are_written = refl

a_field_is_not_cut : list_all (is_uncut 10 14) node_fields ≡ true
a_field_is_not_cut = refl

half_an_identifier_is_cut : list_all (is_uncut 3 4) node_fields ≡ false
half_an_identifier_is_cut = refl

-- written is the second half of an identifier; the first stays
half_an_identifier_is_read_anew : node_of (overwritten 3 4 (replicate 3 0x00 ++ 0x07 ∷ []) numbers) ≡ record (node_of numbers) { id = record { 0 = 0x2F07 } }
unfolding node_of patched
half_an_identifier_is_read_anew = refl

-- two bytes of 34 are others; a 35th isn't taken
kept_bytes_from_the_33rd_on : kept_anew (replicate 34 0xAA) (replicate 35 0xBB) ≡ replicate 32 0xAA ++ 0xBB ∷ 0xBB ∷ []
unfolding patched
kept_bytes_from_the_33rd_on = refl

few_kept_bytes_stay : kept_anew (0x01 ∷ 0x02 ∷ []) (replicate 35 0xBB) ≡ 0x01 ∷ 0x02 ∷ []
unfolding patched
few_kept_bytes_stay = refl

-- ---- what is found in a state

a_file_has_its_number : file_with_number made_card 2 ≡ Some (record { number = 2; parent = 0; kind = 0x42; id = 0x6F3A; short = 1; life = 5; rule = None; place = 3978; size = 8; contents = Records ((0x41 ∷ 0xFF ∷ 0xFF ∷ 0xFF ∷ []) ∷ (0x42 ∷ 0xFF ∷ 0xFF ∷ 0xFF ∷ []) ∷ []) })
a_file_has_its_number = refl

no_second_pin : pin_with_key made_card 0x81 ≡ None
no_second_pin = refl

-- a table with a file and a row, and bytes of that file
abbrev two_entries : Loaded
two_entries = record {
  nodes = unused_node ∷ record unused_node { used = true; kind = 0x41; id = record { 0 = 0x2FE2 }; life = 5; place = 1; size = 2 } ∷ [];
  pins = [];
  rows = unused_row ∷ record unused_row { text = 0x41 ∷ [] } ∷ record unused_row { used = true; kind = 6; priority = 1; events = 0x201; text = 0x42 ∷ [] } ∷ [];
  next = 1;
  wide = true;
}

a_used_entry_is_a_file : file_with_number (state_of two_entries (7 ∷ 8 ∷ 9 ∷ [])) 1
    ≡ Some (record { number = 1; parent = 0; kind = 0x41; id = 0x2FE2; short = 0; life = 5; rule = None; place = 1; size = 2; contents = Bytes (8 ∷ 9 ∷ []) })
unfolding state_of files_of contents_of
a_used_entry_is_a_file = refl

an_unused_one_is_none : file_with_number (state_of two_entries (7 ∷ 8 ∷ 9 ∷ [])) 0 ≡ None
unfolding state_of files_of
an_unused_one_is_none = refl

-- bits 0 and 9; the text of a row that is not used doesn't count
a_row_has_its_codes : rows_of two_entries ≡ record { shelf = 2; kind = 6; priority = 1; sequence = 0; codes = 0x00 ∷ 0x40 ∷ []; text = 0x42 ∷ []; kept = [] } ∷ []
unfolding rows_of
a_row_has_its_codes = refl

one_text : text_count_of two_entries ≡ 1
one_text = refl

-- ---- codes

the_version_of_a_wide_card : version_part true ≡ record { place = 4; bytes = 2 ∷ [] }
the_version_of_a_wide_card = refl

two_codes : AreEventCodes (0x00 ∷ 0x40 ∷ [])
two_codes = codes_known 0x201

not_a_code : AreEventCodes (0x06 ∷ []) → ⊥
not_a_code codes = no_such_code (codes.known 0 0x06 (omega arith)) where
  no_such_code : Contains known_codes 0x06 → ⊥
  no_such_code (zero, low, is) = absurd (omega arith)
  no_such_code (suc zero, low, is) = absurd (omega arith)
  no_such_code (suc (suc zero), low, is) = absurd (omega arith)
  no_such_code (suc (suc (suc zero)), low, is) = absurd (omega arith)
  no_such_code (suc (suc (suc (suc zero))), low, is) = absurd (omega arith)
  no_such_code (suc (suc (suc (suc (suc zero)))), low, is) = absurd (omega arith)
  no_such_code (suc (suc (suc (suc (suc (suc zero))))), low, is) = absurd (omega arith)
  no_such_code (suc (suc (suc (suc (suc (suc (suc zero)))))), low, is) = absurd (omega arith)
  no_such_code (suc (suc (suc (suc (suc (suc (suc (suc zero))))))), low, is) = absurd (omega arith)
  no_such_code (suc (suc (suc (suc (suc (suc (suc (suc (suc zero)))))))), low, is) = absurd (omega arith)
  no_such_code (suc (suc (suc (suc (suc (suc (suc (suc (suc (suc zero))))))))), low, is) = absurd (omega arith)
  no_such_code (suc (suc (suc (suc (suc (suc (suc (suc (suc (suc (suc zero)))))))))), low, is) = absurd (omega arith)
  no_such_code (suc (suc (suc (suc (suc (suc (suc (suc (suc (suc (suc (suc k))))))))))), low, is) = absurd (omega arith)

not_twice : AreEventCodes (0x40 ∷ 0x40 ∷ []) → ⊥
not_twice codes = let less : 0x40 < 0x40 = codes.ascending 0 1 0 (omega arith) (omega arith) in omega arith
