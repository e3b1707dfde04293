-- Changed states and the migration, worked out on examples.
use Rattle.std.proofs.Common.{◌≡◌, ℕ, true, false, List, [], ◌∷◌, None, refl}
use Rattle.list_laws.specs.Patches.{patched}
use Rattle.card_state.specs.Persistent.{Contents, Bytes, Records, File, Registration, Persistent}
use Rattle.card_state.specs.Soundness.{mf}
use Rattle.card_state.specs.Standing.{standing}
use Rattle.card_state.specs.Changing.{with_file_changed, with_bytes, with_record, with_newest_record, with_life, with_row_changed, with_code_committed, without_code_committed, with_kept_committed}
use Rattle.card_state.specs.Migration.{ends_low, migrated}

abbrev ef : ℕ → ℕ → ℕ → Contents → File
ef number kind place contents = record { number = number; parent = 0; kind = kind; id = 0x6F00; short = 0; life = 5; rule = None; place = place; size = 6; contents = contents }

-- a transparent file, and a cyclic one of three records
abbrev card : Contents → Contents → Persistent
card bytes records = record { is_wide = false; files = mf ∷ ef 1 0x41 3968 bytes ∷ ef 2 0x46 3974 records ∷ []; pins = []; rows = []; next_sequence = 0 }

abbrev six : Contents
six = Bytes (1 ∷ 2 ∷ 3 ∷ 4 ∷ 5 ∷ 6 ∷ [])

abbrev three : Contents
three = Records ((1 ∷ 2 ∷ []) ∷ (3 ∷ 4 ∷ []) ∷ (5 ∷ 6 ∷ []) ∷ [])

two_bytes_are_put : with_bytes 1 3 (0xA4 ∷ 0xA5 ∷ []) (card six three) ≡ card (Bytes (1 ∷ 2 ∷ 3 ∷ 0xA4 ∷ 0xA5 ∷ 6 ∷ [])) three
unfolding with_file_changed patched
two_bytes_are_put = refl

bytes_are_not_put_into_records : with_bytes 2 3 (0xA4 ∷ 0xA5 ∷ []) (card six three) ≡ card six three
unfolding with_file_changed
bytes_are_not_put_into_records = refl

the_second_record_is_another : with_record 2 1 (0xA3 ∷ 0xA4 ∷ []) (card six three) ≡ card six (Records ((1 ∷ 2 ∷ []) ∷ (0xA3 ∷ 0xA4 ∷ []) ∷ (5 ∷ 6 ∷ []) ∷ []))
unfolding with_file_changed
the_second_record_is_another = refl

the_newest_comes_first : with_newest_record 2 (0xA1 ∷ 0xA2 ∷ []) (card six three) ≡ card six (Records ((0xA1 ∷ 0xA2 ∷ []) ∷ (1 ∷ 2 ∷ []) ∷ (3 ∷ 4 ∷ []) ∷ []))
unfolding with_file_changed
the_newest_comes_first = refl

a_file_is_deactivated : (with_life 1 4 (card six three)).files ≡ mf ∷ record (ef 1 0x41 3968 six) { life = 4 } ∷ ef 2 0x46 3974 three ∷ []
unfolding with_file_changed
a_file_is_deactivated = refl

-- ---- the migration

a_narrow_card_becomes_wide : migrated (card six three) ≡ record (card six three) { is_wide = true }
unfolding migrated
a_narrow_card_becomes_wide = refl

-- a file of six bytes may end at 63,488
the_last_place_that_is_low : ends_low (ef 3 0x41 63482 six) ≡ true
the_last_place_that_is_low = refl

one_file_above_and_it_stays : migrated (record (card six three) { files = mf ∷ ef 1 0x41 63483 six ∷ [] }) ≡ record (card six three) { files = mf ∷ ef 1 0x41 63483 six ∷ [] }
unfolding migrated
one_file_above_and_it_stays = refl

-- a store that tells nothing stands for no state that is known
nothing_is_told : standing 0x4A None ≡ None
unfolding standing
nothing_is_told = refl

-- ---- rows

abbrev row : ℕ → List ℕ → List ℕ → Registration
row shelf codes kept = record { shelf = shelf; kind = 1; priority = 5; sequence = shelf; codes = codes; text = []; kept = kept }

abbrev with_rows : List Registration → Persistent
with_rows rows = record (card six three) { rows = rows }

an_event_more : with_code_committed 2 0x04 (with_rows (row 1 [] [] ∷ row 2 (0x02 ∷ 0x40 ∷ []) [] ∷ [])) ≡ with_rows (row 1 [] [] ∷ row 2 (0x02 ∷ 0x04 ∷ 0x40 ∷ []) [] ∷ [])
unfolding with_row_changed
an_event_more = refl

the_same_once : with_code_committed 2 0x40 (with_rows (row 2 (0x02 ∷ 0x40 ∷ []) [] ∷ [])) ≡ with_rows (row 2 (0x02 ∷ 0x40 ∷ []) [] ∷ [])
unfolding with_row_changed
the_same_once = refl

an_event_less : without_code_committed 2 0x02 (with_rows (row 2 (0x02 ∷ 0x40 ∷ []) [] ∷ [])) ≡ with_rows (row 2 (0x40 ∷ []) [] ∷ [])
unfolding with_row_changed
an_event_less = refl

two_bytes_are_kept : with_kept_committed 1 (0xA1 ∷ 0xA2 ∷ []) (with_rows (row 1 [] (0x01 ∷ []) ∷ row 2 [] [] ∷ [])) ≡ with_rows (row 1 [] (0xA1 ∷ 0xA2 ∷ []) ∷ row 2 [] [] ∷ [])
unfolding with_row_changed
two_bytes_are_kept = refl
