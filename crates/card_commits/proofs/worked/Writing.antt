-- Which bytes a change writes, worked out on examples.
use Rattle.std.proofs.Common.{◌≡◌, ℕ, true, false, List, [], ◌∷◌, ◌++◌, replicate, Some, refl}
use Rattle.list_laws.specs.Patches.{patched}
use Rattle.store_form.specs.Pieces.{Piece}
use Rattle.card_state.specs.declared.entries.Node.{Node}
use Rattle.card_state.specs.declared.entries.Row.{Row}
use Rattle.card_state.specs.declared.entries.Loaded.{Loaded}
use Rattle.card_state.specs.Blank.{unused_node, unused_row}
use Rattle.card_state.specs.Changes.{OfTries, OfUnblockTries, OfValue, OfEnabling, OfUnblocking, PutBytes, PutRecord, PutNewest, PutLife, PutPin, MakeFile, TakeFile, FitFile, AddRow, TakeRow, PutEvents, PutKept}
use Rattle.card_state.specs.Persistent.{Bytes, File, Pin}
use Rattle.card_state.specs.Soundness.{mf}
use Rattle.file_model.specs.Pins.{pin_found}
use Rattle.layout_entries.specs.Spelling.{node_spelled, pin_spelled, row_spelled}
use Rattle.card_commits.specs.Writing.{pieces_of, prepared_for}

-- a transparent EF of 10 bytes, a linear fixed one of 3 records of 4 bytes, and a cyclic one of 3 records of 3 bytes, of which the first is the newest
abbrev transparent : Node
transparent = record unused_node { used = true; kind = 0x41; life = 5; place = 4000; size = 10 }

abbrev linear : Node
linear = record unused_node { used = true; kind = 0x42; life = 5; place = 4010; size = 12; length = 4 }

abbrev cyclic : Node
cyclic = record unused_node { used = true; kind = 0x46; life = 5; place = 4022; size = 9; length = 3 }

-- a row that keeps two bytes, and is registered for the codes 00 and 01
abbrev row : Row
row = record unused_row { used = true; kind = 5; priority = 1; sequence = 6; events = 3; kept = 0x11 ∷ 0x22 ∷ [] }

abbrev table : Loaded
table = record { nodes = transparent ∷ linear ∷ cyclic ∷ []; pins = []; rows = row ∷ []; next = 7; wide = false }

abbrev piece : ℕ → List ℕ → Piece
piece place bytes = record { place = place; bytes = bytes }

-- ---- what files hold

bytes_from_an_offset_on : pieces_of table (PutBytes 0 3 (0xAA ∷ 0xBB ∷ [])) ≡ piece 4003 (0xAA ∷ 0xBB ∷ []) ∷ []
unfolding pieces_of
bytes_from_an_offset_on = refl

the_third_record : pieces_of table (PutRecord 1 2 (1 ∷ 2 ∷ 3 ∷ 4 ∷ [])) ≡ piece 4018 (1 ∷ 2 ∷ 3 ∷ 4 ∷ []) ∷ []
unfolding pieces_of
the_third_record = refl

-- it takes the place of the oldest, the third one, which is the head then
the_newest_record : pieces_of table (PutNewest 2 (7 ∷ 8 ∷ 9 ∷ [])) ≡ piece 4028 (7 ∷ 8 ∷ 9 ∷ []) ∷ piece 1967 (2 ∷ []) ∷ []
unfolding pieces_of node_spelled
the_newest_record = refl

-- ---- entries of files

one_byte_of_the_life_cycle : pieces_of table (PutLife 1 4) ≡ piece 1942 (4 ∷ []) ∷ []
unfolding pieces_of node_spelled
one_byte_of_the_life_cycle = refl

a_df_is_made : pieces_of table (MakeFile (record mf { number = 3; id = 0x7F20 })) ≡ piece 1968 (1 ∷ 0x78 ∷ 0x7F ∷ 0x20 ∷ 0 ∷ 0 ∷ 5 ∷ 0 ∷ 0 ∷ 0 ∷ 0 ∷ 0 ∷ 0 ∷ 0 ∷ 0 ∷ 0 ∷ []) ∷ []
unfolding pieces_of node_spelled
a_df_is_made = refl

-- the byte that says that it is used, and none of what it held
a_file_goes : pieces_of table (TakeFile 1) ≡ piece 1936 (0 ∷ []) ∷ []
unfolding pieces_of node_spelled
a_file_goes = refl

-- a transparent EF at this place, of so many bytes
abbrev fitted : ℕ → ℕ → File
fitted place size = record mf { kind = 0x41; place = place; size = size; contents = Bytes [] }

its_size : pieces_of table (FitFile 0 (Some (fitted 4000 8))) ≡ piece 1932 (0 ∷ 8 ∷ []) ∷ []
unfolding pieces_of node_spelled
its_size = refl

its_place_and_size : pieces_of table (FitFile 0 (Some (fitted 0x1000 0x0102))) ≡ piece 1930 (0x10 ∷ 0 ∷ 1 ∷ 2 ∷ []) ∷ []
unfolding pieces_of node_spelled
its_place_and_size = refl

-- bytes FF stand there before
blank_before : prepared_for (MakeFile (fitted 1 2)) (10 ∷ 11 ∷ 12 ∷ 13 ∷ []) ≡ 10 ∷ 0xFF ∷ 0xFF ∷ 13 ∷ []
unfolding prepared_for patched
blank_before = refl

-- ---- PINs

abbrev pin : Pin
pin = record { key = 0x81; is_enabled = true; tries = 3; unblock_tries = 10; value = 0x31 ∷ 0x32 ∷ 0x33 ∷ 0x34 ∷ 0xFF ∷ 0xFF ∷ 0xFF ∷ 0xFF ∷ []; unblock = replicate 8 0x38 }

a_try : pieces_of table (PutPin OfTries 0x81 (pin ∷ [])) ≡ piece 854 (3 ∷ []) ∷ []
unfolding pieces_of pin_found pin_spelled
a_try = refl

a_try_of_the_unblock_pin : pieces_of table (PutPin OfUnblockTries 0x81 (pin ∷ [])) ≡ piece 855 (10 ∷ []) ∷ []
unfolding pieces_of pin_found pin_spelled
a_try_of_the_unblock_pin = refl

a_value : pieces_of table (PutPin OfValue 0x81 (pin ∷ [])) ≡ piece 854 (3 ∷ 10 ∷ 0x31 ∷ 0x32 ∷ 0x33 ∷ 0x34 ∷ 0xFF ∷ 0xFF ∷ 0xFF ∷ 0xFF ∷ []) ∷ []
unfolding pieces_of pin_found pin_spelled
a_value = refl

enabled : pieces_of table (PutPin OfEnabling 0x81 (pin ∷ [])) ≡ piece 853 (1 ∷ 3 ∷ []) ∷ []
unfolding pieces_of pin_found pin_spelled
enabled = refl

unblocked : pieces_of table (PutPin OfUnblocking 0x81 (pin ∷ [])) ≡ piece 853 (1 ∷ 3 ∷ 10 ∷ 0x31 ∷ 0x32 ∷ 0x33 ∷ 0x34 ∷ 0xFF ∷ 0xFF ∷ 0xFF ∷ 0xFF ∷ []) ∷ []
unfolding pieces_of pin_found pin_spelled
unblocked = refl

no_such_key : pieces_of table (PutPin OfTries 0x01 (pin ∷ [])) ≡ []
unfolding pieces_of pin_found
no_such_key = refl

-- ---- rows

a_row_goes : pieces_of table (TakeRow 0) ≡ piece 896 (0 ∷ []) ∷ []
unfolding pieces_of row_spelled
a_row_goes = refl

other_events : pieces_of table (PutEvents 0 0x0208) ≡ piece 901 (2 ∷ 8 ∷ []) ∷ []
unfolding pieces_of row_spelled
other_events = refl

its_kept_bytes : pieces_of table (PutKept 0 (0xA1 ∷ 0xA2 ∷ 0xA3 ∷ [])) ≡ piece 914 (3 ∷ 0xA1 ∷ 0xA2 ∷ 0xA3 ∷ []) ∷ []
unfolding pieces_of row_spelled
its_kept_bytes = refl

-- a whole row, in which no text and two kept bytes are filled up with 00, and then the next sequence number
a_row_comes : pieces_of table (AddRow 0 row) ≡ piece 896 (1 ∷ 5 ∷ 1 ∷ 0 ∷ 6 ∷ 0 ∷ 3 ∷ 0 ∷ replicate 10 0 ++ 2 ∷ 0x11 ∷ 0x22 ∷ replicate 30 0) ∷ piece 6 (0 ∷ 8 ∷ []) ∷ []
unfolding pieces_of row_spelled
a_row_comes = refl
