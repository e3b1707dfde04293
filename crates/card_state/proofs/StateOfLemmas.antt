-- The state of a content's entries, by their numbers.
use Rattle.std.proofs.Common.{◌≡◌, ℕ, ◌≤◌, ◌<◌, Bool, true, false, cond, List, map, sym, ◌∙◌, ap, ⊎_elim, not, ◌==◌, nat_lt}
use Rattle.std.specs.List.{range_with_len}
use Rattle.std.proofs.lemmas.Bool.{cases_Bool, cases_lt, le-ltb, lt-ltb, cond-true, cond-false, false≢true}
use Rattle.card_state.specs.declared.entries.Node.{Node}
use Rattle.card_state.specs.declared.entries.PinSlot.{PinSlot}
use Rattle.card_state.specs.declared.entries.Row.{Row}
use Rattle.card_state.specs.Blank.{unused_node, absent_pin, unused_row}
use Rattle.card_state.specs.Places.{sequence_place, row_count}
use Rattle.card_state.specs.Persistent.{File, Pin, Registration, Persistent}
use Rattle.card_state.specs.Decoding.{number_at, is_wide, node_of, pin_of, node_bytes, pin_bytes, node_at, pin_at, row_at, table_of}
use Rattle.card_state.specs.States.{file_of, pin_state, registration_of, used_nodes, used_rows, present_pins, files_of, pins_of, rows_of, state_of}
use Rattle.card_state.specs.Checks.{row_there}
use Rattle.card_state.proofs.FilterRangeLemmas.{kept, entries_kept, items_kept}

module _ (content : List ℕ) where
  abbrev pub is_file : ℕ → Bool
  is_file number = (node_at content number).used

  abbrev pub file_at : ℕ → File
  file_at number = file_of content number (node_at content number)

  abbrev pub is_present : ℕ → Bool
  is_present slot = not ((pin_at content slot).key == 0)

  abbrev pub pin_there : ℕ → Pin
  pin_there slot = pin_state (pin_at content slot)

  abbrev pub is_taken : ℕ → Bool
  is_taken shelf = (row_at content shelf).used

  abbrev pub registration_at : ℕ → Registration
  registration_at shelf = registration_of shelf (row_at content shelf)

  unfoldable pub files : List File
  files = kept file_at is_file 0 128

  unfoldable pub pins : List Pin
  pins = kept pin_there is_present 0 3

  unfoldable pub rows : List Registration
  rows = kept registration_at is_taken 0 32

  abbrev pub listed : Persistent
  listed = record { is_wide = is_wide content; files = files; pins = pins; rows = rows; next_sequence = number_at content sequence_place }

  files_listed : map (λ entry. file_of content entry.0 entry.1) (used_nodes (map (node_at content) (range_with_len 0 128))) ≡ files
  unfolding files
  files_listed = entries_kept (node_at content) (λ node. node.used) (file_of content) 128

  rows_listed : map (λ entry. registration_of entry.0 entry.1) (used_rows (map (row_at content) (range_with_len 0 32))) ≡ rows
  unfolding rows
  rows_listed = entries_kept (row_at content) (λ row. row.used) registration_of 32

  pins_listed : map pin_state (present_pins (map (pin_at content) (range_with_len 0 3))) ≡ pins
  unfolding pins
  pins_listed = items_kept (pin_at content) (λ pin. not (pin.key == 0)) pin_state 0 3

  same_state : (all_files : List File) (all_pins : List Pin) (all_rows : List Registration) → all_files ≡ files → all_pins ≡ pins → all_rows ≡ rows
      → record { is_wide = is_wide content; files = all_files; pins = all_pins; rows = all_rows; next_sequence = number_at content sequence_place } ≡ listed
  same_state all_files all_pins all_rows a b c =
      ap (λ (l : List File). record { is_wide = is_wide content; files = l; pins = all_pins; rows = all_rows; next_sequence = number_at content sequence_place }) a
      ∙ ap (λ (l : List Pin). record { is_wide = is_wide content; files = files; pins = l; rows = all_rows; next_sequence = number_at content sequence_place }) b
      ∙ ap (λ (l : List Registration). record { is_wide = is_wide content; files = files; pins = pins; rows = l; next_sequence = number_at content sequence_place }) c

  pub state_listed : state_of (table_of content) content ≡ listed
  unfolding state_of files_of pins_of rows_of table_of
  state_listed = same_state _ _ _ files_listed pins_listed rows_listed

-- ---- an entry that is used is what its bytes spell

node_whole : (node : Node) → (cond node.used node unused_node).used ≡ true → cond node.used node unused_node ≡ node
node_whole node is =
    ⊎_elim {C = cond node.used node unused_node ≡ node} (cond-true node.used node unused_node) (λ free. let none : false ≡ true = rw free at is in absurd (false≢true none)) (cases_Bool node.used)

row_whole : (row : Row) → (cond row.used row unused_row).used ≡ true → cond row.used row unused_row ≡ row
row_whole row is =
    ⊎_elim {C = cond row.used row unused_row ≡ row} (cond-true row.used row unused_row) (λ free. let none : false ≡ true = rw free at is in absurd (false≢true none)) (cases_Bool row.used)

pin_whole : (pin : PinSlot) → not ((cond (pin.key == 0) absent_pin pin).key == 0) ≡ true → cond (pin.key == 0) absent_pin pin ≡ pin
pin_whole pin is =
    ⊎_elim {C = cond (pin.key == 0) absent_pin pin ≡ pin} (λ absent. let none : false ≡ true = rw absent at is in absurd (false≢true none)) (cond-false (pin.key == 0) absent_pin pin) (cases_Bool (pin.key == 0))

no_row : (row : Row) → (cond row.used row unused_row).used ≡ false → cond row.used row unused_row ≡ unused_row
no_row row is =
    ⊎_elim {C = cond row.used row unused_row ≡ unused_row} (λ used. let none : true ≡ false = rw used at (rw (cond-true row.used row unused_row used) at is) in absurd (false≢true (sym none))) (cond-false row.used row unused_row) (cases_Bool row.used)

no_node : (node : Node) → (cond node.used node unused_node).used ≡ false → cond node.used node unused_node ≡ unused_node
no_node node is =
    ⊎_elim {C = cond node.used node unused_node ≡ unused_node} (λ used. let none : true ≡ false = rw used at (rw (cond-true node.used node unused_node used) at is) in absurd (false≢true (sym none))) (cond-false node.used node unused_node) (cases_Bool node.used)

module _ (content : List ℕ) where
  pub node_there : (number : ℕ) → is_file content number ≡ true → node_at content number ≡ node_of (node_bytes content number)
  node_there number = node_whole (node_of (node_bytes content number))

  pub node_spelled : (number : ℕ) → (node_of (node_bytes content number)).used ≡ true → node_at content number ≡ node_of (node_bytes content number)
  node_spelled number = cond-true (node_of (node_bytes content number)).used (node_of (node_bytes content number)) unused_node

  pub no_node_there : (number : ℕ) → is_file content number ≡ false → node_at content number ≡ unused_node
  no_node_there number = no_node (node_of (node_bytes content number))

  pub pin_present : (slot : ℕ) → is_present content slot ≡ true → pin_at content slot ≡ pin_of (pin_bytes content slot)
  pin_present slot = pin_whole (pin_of (pin_bytes content slot))

  pub pin_spelled : (slot : ℕ) → (pin_of (pin_bytes content slot)).key == 0 ≡ false → pin_at content slot ≡ pin_of (pin_bytes content slot)
  pin_spelled slot = cond-false ((pin_of (pin_bytes content slot)).key == 0) absent_pin (pin_of (pin_bytes content slot))

  abbrev there : ℕ → Row
  there shelf = cond (row_there content shelf).used (row_there content shelf) unused_row

  row_low : (shelf : ℕ) → shelf < row_count (is_wide content) → row_at content shelf ≡ there shelf
  row_low shelf low = cond-true (nat_lt shelf (row_count (is_wide content))) (there shelf) unused_row (lt-ltb shelf (row_count (is_wide content)) low)

  row_high : (shelf : ℕ) → row_count (is_wide content) ≤ shelf → row_at content shelf ≡ unused_row
  row_high shelf high = cond-false (nat_lt shelf (row_count (is_wide content))) (there shelf) unused_row (le-ltb shelf (row_count (is_wide content)) high)

  pub row_is_there : (shelf : ℕ) → is_taken content shelf ≡ true → (shelf < row_count (is_wide content)) × (row_at content shelf ≡ row_there content shelf)
  row_is_there shelf is =
      ⊎_elim {C = (shelf < row_count (is_wide content)) × (row_at content shelf ≡ row_there content shelf)}
      (λ low. (low, row_low shelf low ∙ row_whole (row_there content shelf) (ap (λ (row : Row). row.used) (sym (row_low shelf low)) ∙ is)))
      (λ high. let none : false ≡ true = ap (λ (row : Row). row.used) (sym (row_high shelf high)) ∙ is in absurd (false≢true none)) (cases_lt shelf (row_count (is_wide content)))

  pub row_spelled : (shelf : ℕ) → shelf < row_count (is_wide content) → (row_there content shelf).used ≡ true → row_at content shelf ≡ row_there content shelf
  row_spelled shelf low is = row_low shelf low ∙ cond-true (row_there content shelf).used (row_there content shelf) unused_row is

  pub no_row_there : (shelf : ℕ) → is_taken content shelf ≡ false → row_at content shelf ≡ unused_row
  no_row_there shelf is =
      ⊎_elim {C = row_at content shelf ≡ unused_row}
      (λ low. row_low shelf low ∙ no_row (row_there content shelf) (ap (λ (row : Row). row.used) (sym (row_low shelf low)) ∙ is)) (row_high shelf) (cases_lt shelf (row_count (is_wide content)))
