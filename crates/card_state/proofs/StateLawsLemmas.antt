-- The state of a table has the entries that are used, each under its number, and no others.
use Rattle.std.proofs.Common.{◌≡◌, ◌≢◌, ℕ, ◌<◌, ◌==◌, Bool, true, false, not, if◌then◌else◌, zero, suc, List, map, find, slice_get, Option, Some, None, option_and_then, Contains, refl, sym, ◌∙◌, ap, subst, arith}
use Rattle.std.proofs.lemmas.Bool.{eqb-false, not-true}
use Rattle.std.proofs.lemmas.Option.{slice_get_within}
use Rattle.std.proofs.lemmas.List.Elements.{All-contains}
use Rattle.std.proofs.lemmas.Simd.{map-map}
use Rattle.card_state.specs.declared.entries.Node.{Node}
use Rattle.card_state.specs.declared.entries.PinSlot.{PinSlot}
use Rattle.card_state.specs.declared.entries.Row.{Row}
use Rattle.card_state.specs.declared.entries.Loaded.{Loaded}
use Rattle.card_state.proofs.KeyOfSlotLemmas.{number_of_file}
use Rattle.card_state.specs.Kinds.{df_kind}
use Rattle.card_state.specs.Persistent.{Pin}
use Rattle.card_state.specs.Checks.{key_of_slot, has_row_text}
use Rattle.card_state.specs.Sections.{has_text}
use Rattle.card_state.specs.States.{df_file, ef_file, file_of, pin_state, registration_of, files_of, pins_of, rows_of, state_of}
use Rattle.card_state.specs.Used.{pin_if}
use Rattle.card_state.specs.StateLaws.{FilesAreEntries, PinsAreEntries, RowsAreEntries, IsOfNode, IsOfSlot, IsOfRow, FilesComeFromEntries, PinsComeFromEntries, RowsComeFromEntries, StatesAreOfTables, emptied, FieldsAreOfTables, TextsAreCounted}
use Rattle.card_state.proofs.ShownLemmas.{shown, all_used, found_used, count_shown, unnumbered, alike_shown}

abbrev is_file : Node → Bool
is_file node = node.used

abbrev is_taken : Row → Bool
is_taken row = row.used

abbrev is_there : PinSlot → Bool
is_there pin = not (pin.key == 0)

-- ---- files

pub files_found : FilesAreEntries
unfolding state_of files_of
files_found table content number =
    found_used is_file (file_of content) (λ file. file.number == number) number table.nodes (λ k node got used. ap (λ (n : ℕ). n == number) (number_of_file content k node))

pub files_come : FilesComeFromEntries
unfolding state_of files_of
files_come table content file there =
    All-contains (IsOfNode table content) (shown is_file (file_of content) 0 table.nodes) file
    (all_used is_file (file_of content) (IsOfNode table content) table.nodes
    (λ k node got used.
    let is : k ≡ (file_of content k node).number = sym (number_of_file content k node) in
    record {
      node = node;
      has = record { there = subst (λ (n : ℕ). slice_get table.nodes n ≡ Some node) is got; used = used };
      same = ap (λ (n : ℕ). file_of content n node) is;
    })) there

same_emptied : (content content' : List ℕ) (number : ℕ) (node : Node) → emptied (file_of content number node) ≡ emptied (file_of content' number node)
same_emptied content content' number node = by_test (node.kind == df_kind) where
  by_test : (b : Bool) → emptied (if b then df_file number node else ef_file content number node) ≡ emptied (if b then df_file number node else ef_file content' number node)
  by_test true = refl
  by_test false = refl

emptied_files : (table : Loaded) (content : List ℕ) → map emptied (shown is_file (file_of content) 0 table.nodes) ≡ shown is_file (λ k node. emptied (file_of content k node)) 0 table.nodes
emptied_files table content = map-map _ _ _

pub fields_same : FieldsAreOfTables
unfolding state_of files_of
fields_same table content content' =
    emptied_files table content
    ∙ alike_shown is_file (λ k node. emptied (file_of content k node)) (λ k node. emptied (file_of content' k node)) (same_emptied content content') 0 table.nodes
    ∙ sym (emptied_files table content')

-- ---- PINs

same_slots : (a b : ℕ) → a < 3 → b < 3 → (key_of_slot a == key_of_slot b) ≡ (a == b)
same_slots zero zero low high = refl
same_slots zero (suc zero) low high = refl
same_slots zero (suc (suc zero)) low high = refl
same_slots (suc zero) zero low high = refl
same_slots (suc zero) (suc zero) low high = refl
same_slots (suc zero) (suc (suc zero)) low high = refl
same_slots (suc (suc zero)) zero low high = refl
same_slots (suc (suc zero)) (suc zero) low high = refl
same_slots (suc (suc zero)) (suc (suc zero)) low high = refl
same_slots (suc (suc (suc a))) b low high = absurd (omega arith)
same_slots a (suc (suc (suc b))) low high = absurd (omega arith)

key_there : (pin : PinSlot) → is_there pin ≡ true → pin.key ≢ 0
key_there pin is = eqb-false pin.key 0 (not-true (pin.key == 0) is)

shown_pin : (pin : PinSlot) → (if is_there pin then Some (pin_state pin) else None) ≡ pin_if pin
shown_pin pin = by_test (pin.key == 0) where
  by_test : (b : Bool) → (if not b then Some (pin_state pin) else None) ≡ (if b then None else Some (pin_state pin))
  by_test true = refl
  by_test false = refl

shown_slot : (slot : Option PinSlot) → option_and_then (λ pin. if is_there pin then Some (pin_state pin) else None) slot ≡ option_and_then pin_if slot
shown_slot None = refl
shown_slot (Some pin) = shown_pin pin

pub pins_found : PinsAreEntries
unfolding state_of pins_of
pins_found table content slot own long low =
    ap (find (λ (pin : Pin). pin.key == key_of_slot slot)) (unnumbered is_there pin_state 0 table.pins)
    ∙ found_used is_there (λ k pin. pin_state pin) (λ pin. pin.key == key_of_slot slot) slot table.pins
    (λ k pin got used.
    ap (λ (key : ℕ). key == key_of_slot slot) (own k pin (record { there = got; key = key_there pin used }))
    ∙ same_slots k slot (omega (arith, long, slice_get_within table.pins k pin got)) low)
    ∙ shown_slot (slice_get table.pins slot)

pub pins_come : PinsComeFromEntries
unfolding state_of pins_of
pins_come table content pin there =
    All-contains (IsOfSlot table) (shown is_there (λ k entry. pin_state entry) 0 table.pins) pin
    (all_used is_there (λ k entry. pin_state entry) (IsOfSlot table) table.pins
    (λ k entry got used. record { slot = k; entry = entry; has = record { there = got; key = key_there entry used }; same = refl }))
    (subst (λ (l : List Pin). Contains l pin) (unnumbered is_there pin_state 0 table.pins) there)

-- ---- rows

pub rows_found : RowsAreEntries
unfolding state_of rows_of
rows_found table content shelf = found_used is_taken registration_of (λ row. row.shelf == shelf) shelf table.rows (λ k row got used. refl)

pub rows_come : RowsComeFromEntries
unfolding state_of rows_of
rows_come table content row there =
    All-contains (IsOfRow table) (shown is_taken registration_of 0 table.rows) row
    (all_used is_taken registration_of (IsOfRow table) table.rows (λ k entry got used. record { entry = entry; has = record { there = got; used = used }; same = refl })) there

pub texts_counted : TextsAreCounted
unfolding state_of rows_of
texts_counted table content = count_shown is_taken registration_of has_text has_row_text 0 table.rows (λ k row. refl)

-- ---- the table alone

pub of_table : StatesAreOfTables
unfolding state_of
of_table table content = record { pins = refl; rows = refl; next = refl; wide = refl }
