-- Files made, resized and deleted on a card, worked out.
use Rattle.std.proofs.Common.{◌≡◌, ℕ, ◌+◌, true, false, List, [], ◌∷◌, ◌++◌, map, replicate, Option, Some, None, Ok, Err, refl, Result}
use Rattle.std.specs.List.{range_with_len}
use Rattle.uicc_types.specs.declared.answers.StatusWord.{StatusWord}
use Rattle.uicc_types.specs.declared.answers.TheConstants.StatusWord.{WRONG_PARAMETERS, WRONG_LENGTH, SECURITY_NOT_SATISFIED, CONDITIONS_NOT_SATISFIED, WRONG_STRUCTURE, WRONG_DATA, FILE_NOT_FOUND, NO_ROOM, FILE_ALREADY_THERE, DONE}
use Rattle.apdu_form.specs.Model.{Apdu}
use Rattle.card_state.specs.declared.shapes.Shape.TheVariants.{Transparent, Cyclic}
use Rattle.card_state.specs.Changes.{MakeFile, TakeFile, FitFile}
use Rattle.card_state.specs.Persistent.{Contents, Bytes, Records, File, Persistent}
use Rattle.card_state.specs.Soundness.{mf}
use Rattle.access_rules.specs.Objects.{object}
use Rattle.access_rules.specs.declared.rules.Verified.{Verified}
use Rattle.file_model.specs.declared.selections.Selection.{Selection}
use Rattle.file_model.specs.Access.{may}
use Rattle.file_model.specs.Binaries.{binary_file, read_from, reading, binary_read}
use Rattle.file_model.specs.Chains.{refused_if, given, and_given}
use Rattle.file_model.specs.Files.{descriptor_in, descriptors_in, file_found}
use Rattle.file_model.specs.Holdings.{held_by}
use Rattle.file_model.specs.Outcomes.{addressed}
use Rattle.file_model.specs.Selections.{selection_of, chosen_by_identifier}
use Rattle.file_model.specs.declared.asked.NewFile.TheVariants.{Ef}
use Rattle.file_model.specs.Rooms.{room_at, free_number}
use Rattle.file_model.specs.Templates.{template, new_file_told, asked_in}
use Rattle.file_model.specs.TreeOutcomes.{TreeOutcome, all_without_ef}
use Rattle.file_model.specs.Creating.{creating, created}
use Rattle.file_model.specs.Deleting.{deleting, deleted}
use Rattle.file_model.specs.Resizing.{resizing, resized}

-- ---- a card with three EFs, of 10, 8 and 9 bytes

abbrev ef : ℕ → ℕ → ℕ → ℕ → ℕ → ℕ → Contents → File
ef number kind id short place size contents = record { number = number; parent = 0; kind = kind; id = id; short = short; life = 5; rule = None; place = place; size = size; contents = contents }

abbrev iccid : File
iccid = ef 1 0x41 0x2FE2 2 3968 10 (Bytes (0x98 ∷ 0x10 ∷ 0x10 ∷ 0x32 ∷ 0x54 ∷ 0x76 ∷ 0x98 ∷ 0x10 ∷ 0x32 ∷ 0x54 ∷ []))

abbrev linear : File
linear = ef 2 0x42 0x6F3A 1 3978 8 (Records ((0x41 ∷ 0xFF ∷ 0xFF ∷ 0xFF ∷ []) ∷ (0x42 ∷ 0xFF ∷ 0xFF ∷ 0xFF ∷ []) ∷ []))

abbrev cyclic : File
cyclic = ef 3 0x46 0x6F39 3 3986 9 (Records (replicate 3 (replicate 3 0xFF)))

abbrev with_files : List File → Persistent
with_files files = record { is_wide = true; files = files; pins = []; rows = []; next_sequence = 0 }

abbrev three : List File
three = mf ∷ iccid ∷ linear ∷ cyclic ∷ []

abbrev card : Persistent
card = with_files three

-- ---- what is verified and selected

abbrev nobody : Verified
nobody = record { pin1 = false; pin2 = false; adm1 = false }

abbrev admin : Verified
admin = record { pin1 = false; pin2 = false; adm1 = true }

abbrev at_df : ℕ → Selection
at_df df = record { df = df; ef = None; pointer = None }

abbrev at_ef : ℕ → ℕ → Selection
at_ef df number = record { df = df; ef = Some number; pointer = None }

-- the basic channel, and perhaps the first one
abbrev channels : Selection → Option Selection → List (Option Selection)
channels basic first = Some basic ∷ first ∷ None ∷ None ∷ []

abbrev at_mf : List (Option Selection)
at_mf = channels (at_df 0) None

abbrev create : List ℕ → Apdu
create bytes = record { class = 0x00; ins = 0xE0; p1 = 0x00; p2 = 0x00; body = bytes; expected = None }

abbrev delete : List ℕ → Apdu
delete bytes = record { class = 0x00; ins = 0xE4; p1 = 0x00; p2 = 0x00; body = bytes; expected = None }

abbrev resize : List ℕ → Apdu
resize bytes = record { class = 0x80; ins = 0xD4; p1 = 0x00; p2 = 0x00; body = bytes; expected = None }

-- ---- a transparent file 6F50 of four bytes, without a short file identifier

abbrev four_bytes : List ℕ
four_bytes = 0x62 ∷ 0x0E ∷ 0x82 ∷ 0x02 ∷ 0x41 ∷ 0x21 ∷ 0x83 ∷ 0x02 ∷ 0x6F ∷ 0x50 ∷ 0x80 ∷ 0x02 ∷ 0x00 ∷ 0x04 ∷ 0x88 ∷ 0x00 ∷ []

it_is_read : asked_in four_bytes ≡ Some (Ef (record { 0 = 0x6F50 }) (Transparent 4) 0 None)
unfolding asked_in new_file_told template object
it_is_read = refl

abbrev made : File
made = ef 4 0x41 0x6F50 0 3995 4 (Bytes (replicate 4 0xFF))

-- it comes after the last file, and is selected
it_is_created : created card admin at_mf 0 (create four_bytes)
    ≡ Ok (record { channels = channels (at_ef 0 4) None; passed = with_files (three ++ made ∷ []) ∷ []; changes = MakeFile made ∷ [] })
unfolding created creating refused_if given asked_in new_file_told template object room_at free_number file_found descriptors_in descriptor_in selection_of
it_is_created = refl

abbrev with_made : Persistent
with_made = with_files (three ++ made ∷ [])

-- but once
it_is_there_already : created with_made admin at_mf 0 (create four_bytes) ≡ Err FILE_ALREADY_THERE
unfolding created refused_if given asked_in new_file_told template object file_found descriptors_in descriptor_in
it_is_there_already = refl

-- with two bytes more it moves after itself, and what it held comes with it
abbrev moved : File
moved = ef 4 0x41 0x6F50 0 3999 6 (Bytes (replicate 6 0xFF))

it_grows : resized with_made admin at_mf 0 (resize (0x6F ∷ 0x50 ∷ 0x00 ∷ 0x06 ∷ [])) ≡ Ok (record { channels = at_mf; passed = with_files (three ++ moved ∷ []) ∷ []; changes = FitFile 4 (Some moved) ∷ [] })
unfolding resized resizing refused_if given room_at file_found descriptors_in descriptor_in
it_grows = refl

-- as many as it has: nothing is committed
it_stays : resized with_made admin at_mf 0 (resize (0x6F ∷ 0x50 ∷ 0x00 ∷ 0x04 ∷ [])) ≡ Ok (record { channels = at_mf; passed = []; changes = [] })
unfolding resized resizing refused_if given room_at file_found descriptors_in descriptor_in
it_stays = refl

-- with fewer it stays where it is, and holds the first of its bytes
abbrev shorter : File
shorter = ef 1 0x41 0x2FE2 2 3968 3 (Bytes (0x98 ∷ 0x10 ∷ 0x10 ∷ []))

it_shrinks : resized card admin (channels (at_ef 0 1) None) 0 (resize (0x2F ∷ 0xE2 ∷ 0x00 ∷ 0x03 ∷ [])) ≡ Ok (record { channels = channels (at_ef 0 1) None; passed = with_files (mf ∷ shorter ∷ linear ∷ cyclic ∷ []) ∷ []; changes = FitFile 1 (Some shorter) ∷ [] })
unfolding resized resizing refused_if given room_at file_found descriptors_in descriptor_in
it_shrinks = refl

-- a gap that is wide enough is taken, with the bytes that the file held
abbrev two : ℕ → ℕ → Contents → Persistent
two place size contents = with_files (mf ∷ ef 1 0x41 0x6F01 0 3975 2 (Bytes (0x01 ∷ 0x02 ∷ [])) ∷ ef 2 0x41 0x6F02 0 place size contents ∷ [])

it_grows_into_a_gap : resized (two 3977 3 (Bytes (0x0A ∷ 0x0B ∷ 0x0C ∷ []))) admin at_mf 0 (resize (0x6F ∷ 0x02 ∷ 0x00 ∷ 0x05 ∷ []))
    ≡ Ok (record { channels = at_mf; passed = two 3968 5 (Bytes (0x0A ∷ 0x0B ∷ 0x0C ∷ 0xFF ∷ 0xFF ∷ [])) ∷ []; changes = FitFile 2 (Some (ef 2 0x41 0x6F02 0 3968 5 (Bytes (0x0A ∷ 0x0B ∷ 0x0C ∷ 0xFF ∷ 0xFF ∷ [])))) ∷ [] })
unfolding resized resizing refused_if given room_at file_found descriptors_in descriptor_in
it_grows_into_a_gap = refl

it_goes : deleted (with_files (three ++ moved ∷ [])) admin (channels (at_ef 0 4) None) 0 (delete (0x6F ∷ 0x50 ∷ [])) ≡ Ok (record { channels = at_mf; passed = card ∷ []; changes = TakeFile 4 ∷ [] })
unfolding deleted deleting refused_if given file_found descriptors_in descriptor_in
it_goes = refl

and_is_found_no_more : chosen_by_identifier (descriptors_in card) 0 (record { 0 = 0x6F50 }) ≡ None
unfolding chosen_by_identifier file_found descriptors_in descriptor_in
and_is_found_no_more = refl

-- ---- a DF

abbrev df : File
df = record mf { number = 4; parent = 0; id = 0x7F20 }

abbrev with_df : Persistent
with_df = with_files (three ++ df ∷ [])

a_df_is_created : created card admin at_mf 0 (create (0x62 ∷ 0x08 ∷ 0x82 ∷ 0x02 ∷ 0x78 ∷ 0x21 ∷ 0x83 ∷ 0x02 ∷ 0x7F ∷ 0x20 ∷ []))
    ≡ Ok (record { channels = channels (at_df 4) None; passed = with_df ∷ []; changes = MakeFile df ∷ [] })
unfolding created creating refused_if given asked_in new_file_told template object room_at free_number file_found descriptors_in descriptor_in selection_of
a_df_is_created = refl

a_df_is_deleted : deleted with_df admin at_mf 0 (delete (0x7F ∷ 0x20 ∷ [])) ≡ Ok (record { channels = at_mf; passed = card ∷ []; changes = TakeFile 4 ∷ [] })
unfolding deleted deleting refused_if given file_found descriptors_in descriptor_in
a_df_is_deleted = refl

-- but not while another channel has it as its current DF
a_df_in_use : deleted with_df admin (channels (at_df 0) (Some (at_df 4))) 0 (delete (0x7F ∷ 0x20 ∷ [])) ≡ Err CONDITIONS_NOT_SATISFIED
unfolding deleted refused_if given file_found descriptors_in descriptor_in
a_df_in_use = refl

-- nor while a file lies in it
a_df_with_a_child : deleted (with_files (three ++ df ∷ record (ef 5 0x41 0x6F50 0 3995 4 (Bytes (replicate 4 0xFF))) { parent = 4 } ∷ [])) admin at_mf 0 (delete (0x7F ∷ 0x20 ∷ [])) ≡ Err CONDITIONS_NOT_SATISFIED
unfolding deleted refused_if given file_found descriptors_in descriptor_in
a_df_with_a_child = refl

-- ---- refusals

no_administrator : created card nobody at_mf 0 (create four_bytes) ≡ Err SECURITY_NOT_SATISFIED
unfolding created refused_if given
no_administrator = refl

no_administrator_deletes : deleted with_df nobody at_mf 0 (delete (0x7F ∷ 0x20 ∷ [])) ≡ Err SECURITY_NOT_SATISFIED
unfolding deleted refused_if given file_found descriptors_in descriptor_in
no_administrator_deletes = refl

-- a file that isn't there is told before that
no_such_child : deleted card nobody at_mf 0 (delete (0x7F ∷ 0x20 ∷ [])) ≡ Err FILE_NOT_FOUND
unfolding deleted refused_if given file_found descriptors_in descriptor_in
no_such_child = refl

-- records have no such size
records_are_not_resized : resized card nobody at_mf 0 (resize (0x6F ∷ 0x3A ∷ 0x00 ∷ 0x06 ∷ [])) ≡ Err WRONG_STRUCTURE
unfolding resized refused_if given file_found descriptors_in descriptor_in
records_are_not_resized = refl

no_bytes_are_no_size : resized card admin at_mf 0 (resize (0x2F ∷ 0xE2 ∷ 0x00 ∷ 0x00 ∷ [])) ≡ Err WRONG_DATA
unfolding resized refused_if given file_found descriptors_in descriptor_in
no_bytes_are_no_size = refl

-- ---- where there is room

-- a wide card has 59,520 bytes for its files: where they are all in use, no file comes
abbrev full : Persistent
full = with_files (mf ∷ ef 1 0x41 0x6F01 0 3968 32767 (Bytes []) ∷ ef 2 0x41 0x6F02 0 36735 26753 (Bytes []) ∷ [])

no_room : created full admin at_mf 0 (create four_bytes) ≡ Err NO_ROOM
unfolding created refused_if given asked_in new_file_told template object room_at free_number file_found descriptors_in descriptor_in
no_room = refl

no_room_to_grow : resized full admin at_mf 0 (resize (0x6F ∷ 0x02 ∷ 0x7F ∷ 0xFF ∷ [])) ≡ Err NO_ROOM
unfolding resized refused_if given room_at file_found descriptors_in descriptor_in
no_room_to_grow = refl

-- a card has 128 files: a DF takes the last number, and then no file comes
abbrev many : ℕ → Persistent
many count = with_files (mf ∷ map (λ n. record mf { number = n; id = 0x7000 + n }) (range_with_len 1 count))

the_last_number : free_number (many 126) 0 ≡ Some 127
unfolding free_number
the_last_number = refl

no_number_is_left : created (many 127) admin at_mf 0 (create (0x62 ∷ 0x08 ∷ 0x82 ∷ 0x02 ∷ 0x78 ∷ 0x21 ∷ 0x83 ∷ 0x02 ∷ 0x7F ∷ 0x20 ∷ [])) ≡ Err NO_ROOM
unfolding created refused_if given asked_in new_file_told template object room_at free_number file_found descriptors_in descriptor_in
no_number_is_left = refl

-- a narrow card has 2,048 bytes more
room_on_a_narrow_card : room_at (record full { is_wide = false }) 2048 ≡ Some 63488
unfolding room_at
room_on_a_narrow_card = refl

but_not_for_more : room_at (record full { is_wide = false }) 2049 ≡ None
unfolding room_at
but_not_for_more = refl

-- the first gap that is wide enough is taken, here of five bytes
abbrev gaps : Persistent
gaps = with_files (mf ∷ ef 1 0x41 0x6F01 0 3971 10 (Bytes []) ∷ ef 2 0x41 0x6F02 0 3986 4 (Bytes []) ∷ [])

three_before_all : room_at gaps 3 ≡ Some 3968
unfolding room_at
three_before_all = refl

five_between : room_at gaps 5 ≡ Some 3981
unfolding room_at
five_between = refl

six_behind_all : room_at gaps 6 ≡ Some 3990
unfolding room_at
six_behind_all = refl

-- a number that was given back is the first to be taken again
a_number_again : free_number (with_files (mf ∷ iccid ∷ cyclic ∷ [])) 0 ≡ Some 2
unfolding free_number
a_number_again = refl

-- a file has a greater number than its DF
above_its_df : free_number (with_files (mf ∷ iccid ∷ cyclic ∷ [])) 3 ≡ Some 4
unfolding free_number
above_its_df = refl

none_above : free_number card 127 ≡ None
unfolding free_number
none_above = refl

-- ---- templates of other files

abbrev is_wrong : List ℕ → Result TreeOutcome StatusWord
is_wrong bytes = created card admin at_mf 0 (create bytes)

-- four records of three bytes in a ring, with the short file identifier 5 and a rule
a_cyclic_file : asked_in (0x62 ∷ 0x17 ∷ 0x82 ∷ 0x05 ∷ 0x46 ∷ 0x21 ∷ 0x00 ∷ 0x03 ∷ 0x04 ∷ 0x83 ∷ 0x02 ∷ 0x6F ∷ 0x51 ∷ 0x8B ∷ 0x03 ∷ 0x6F ∷ 0x06 ∷ 0x02 ∷ 0x80 ∷ 0x02 ∷ 0x00 ∷ 0x0C ∷ 0x88 ∷ 0x01 ∷ 0x28 ∷ [])
    ≡ Some (Ef (record { 0 = 0x6F51 }) (Cyclic 3 4) 5 (Some (record { arr = record { 0 = 0x6F06 }; number = 2 })))
unfolding asked_in new_file_told template object
a_cyclic_file = refl

-- the size of a file with records is their length times their number
a_wrong_size : is_wrong (0x62 ∷ 0x11 ∷ 0x82 ∷ 0x05 ∷ 0x42 ∷ 0x21 ∷ 0x00 ∷ 0x03 ∷ 0x04 ∷ 0x83 ∷ 0x02 ∷ 0x6F ∷ 0x51 ∷ 0x80 ∷ 0x02 ∷ 0x00 ∷ 0x0D ∷ 0x88 ∷ 0x00 ∷ []) ≡ Err WRONG_DATA
unfolding created refused_if given asked_in new_file_told template object
a_wrong_size = refl

-- the short file identifier is there also where it is none
no_short_object : is_wrong (0x62 ∷ 0x0C ∷ 0x82 ∷ 0x02 ∷ 0x41 ∷ 0x21 ∷ 0x83 ∷ 0x02 ∷ 0x6F ∷ 0x50 ∷ 0x80 ∷ 0x02 ∷ 0x00 ∷ 0x04 ∷ []) ≡ Err WRONG_DATA
unfolding created refused_if given asked_in new_file_told template object
no_short_object = refl

-- a second MF
no_second_mf : is_wrong (0x62 ∷ 0x08 ∷ 0x82 ∷ 0x02 ∷ 0x78 ∷ 0x21 ∷ 0x83 ∷ 0x02 ∷ 0x3F ∷ 0x00 ∷ []) ≡ Err WRONG_DATA
unfolding created refused_if given asked_in new_file_told template object
no_second_mf = refl

-- a short file identifier that another EF of the DF has
a_short_that_is_there : is_wrong (0x62 ∷ 0x0F ∷ 0x82 ∷ 0x02 ∷ 0x41 ∷ 0x21 ∷ 0x83 ∷ 0x02 ∷ 0x6F ∷ 0x50 ∷ 0x80 ∷ 0x02 ∷ 0x00 ∷ 0x04 ∷ 0x88 ∷ 0x01 ∷ 0x10 ∷ []) ≡ Err FILE_ALREADY_THERE
unfolding created refused_if given asked_in new_file_told template object file_found descriptors_in descriptor_in
a_short_that_is_there = refl

-- ---- parameters and lengths

wrong_parameters : created card nobody at_mf 0 (record (create four_bytes) { p1 = 0x01 }) ≡ Err WRONG_PARAMETERS
unfolding created refused_if
wrong_parameters = refl

an_identifier_has_two_bytes : deleted card nobody at_mf 0 (delete (0x6F ∷ [])) ≡ Err WRONG_LENGTH
unfolding deleted refused_if
an_identifier_has_two_bytes = refl

-- an EF goes from each channel that has it, and from no other
it_goes_from_both : deleted with_made admin (channels (at_ef 0 4) (Some (at_ef 0 4))) 1 (delete (0x6F ∷ 0x50 ∷ [])) ≡ Ok (record { channels = channels (at_df 0) (Some (at_df 0)); passed = card ∷ []; changes = TakeFile 4 ∷ [] })
unfolding deleted deleting refused_if given file_found descriptors_in descriptor_in
it_goes_from_both = refl

it_goes_from_all : all_without_ef 4 (channels (at_ef 0 4) (Some (record { df = 0; ef = Some 3; pointer = Some 2 }))) ≡ channels (at_df 0) (Some (record { df = 0; ef = Some 3; pointer = Some 2 }))
it_goes_from_all = refl

-- what is read of it is FF
abbrev read_four : Apdu
read_four = record { class = 0x00; ins = 0xB0; p1 = 0x00; p2 = 0x00; body = []; expected = Some 4 }

it_is_blank : binary_read with_made admin (at_ef 0 4) read_four ≡ Ok (record { body = replicate 4 0xFF; status = DONE; selection = at_ef 0 4; passed = []; changes = [] })
unfolding binary_file read_from binary_read reading refused_if given and_given may file_found descriptors_in descriptor_in addressed held_by
it_is_blank = refl
