-- The rows of a table and the registrations that they stand for.
use Rattle.std.proofs.Common.{◌≡◌, ℕ, suc, ◌+◌, ◌≤◌, Bool, true, false, cond, List, [], ◌∷◌, ◌++◌, append_assoc, length, map, filter, drop, get_or, Option, Some, None, refl, sym, ◌∙◌, ap, arith, drop-cons, ◌↔◌, ◌≢◌, ◌&&◌, ◌||◌, not, find, count_by, slice_get, option_and_then, is_some}
use Rattle.std.specs.List.{list_any, enumerate_from}
use Rattle.std.proofs.lemmas.List.{length-map}
use Rattle.std.proofs.lemmas.List.Sums.{length-filter}
use Rattle.card_state.specs.declared.entries.Row.{Row}
use Rattle.card_state.specs.declared.entries.Loaded.{Loaded}
use Rattle.card_state.specs.Checks.{has_row_text, shows_item}
use Rattle.card_state.specs.Persistent.{Registration, Persistent}
use Rattle.card_state.specs.Sections.{has_text, is_call_control}
use Rattle.card_state.specs.States.{registration_of, rows_of}
use Rattle.card_state.specs.StateLaws.{row_on_shelf}
use Rattle.card_state.specs.Used.{registration_if}
use Rattle.toolkit_commands.specs.declared.items.Item.{Item}
use Rattle.toolkit_model.specs.Registry.{is_on, row_on, is_taken, is_answered, item_of, menu_of}
use Rattle.applet_registry.specs.Rows.{answers_calls, answers_beside}

abbrev told : ℕ × Row → Registration
told entry = registration_of entry.0 entry.1

-- the registrations of these rows, the first of which stands on this shelf
abbrev pub shown : ℕ → List Row → List Registration
shown from rows = map told (filter (λ entry. entry.1.used) (enumerate_from from rows))

-- ---- one of them passes where one of the rows that are used does

shown_or : (p : Registration → Bool) (used : Bool) (entry : ℕ × Row) (rest : List (ℕ × Row)) (tests : Bool) → list_any p (map told rest) ≡ tests → list_any p (map told (cond used (entry ∷ rest) rest)) ≡ ((used && p (told entry)) || tests)
shown_or p true entry rest tests is = ap (λ b. p (told entry) || b) is
shown_or p false entry rest tests is = is

any_shown : (p : Registration → Bool) (from : ℕ) (rows : List Row) → list_any p (shown from rows) ≡ list_any (λ entry. entry.1.used && p (told entry)) (enumerate_from from rows)
any_shown p from [] = refl
any_shown p from (row ∷ rows) =
    shown_or p row.used (from, row) (filter (λ entry. entry.1.used) (enumerate_from (from + 1) rows)) (list_any (λ entry. entry.1.used && p (told entry)) (enumerate_from (from + 1) rows)) (any_shown p (from + 1) rows)

pub answered_beside : (loaded : Loaded) (shelf : ℕ) → is_answered (rows_of loaded) shelf ≡ list_any (λ entry. answers_beside shelf entry.0 entry.1) (enumerate_from 0 loaded.rows)
unfolding rows_of answers_calls
answered_beside loaded shelf = any_shown (λ row. not (is_on shelf row) && is_call_control row) 0 loaded.rows

-- an entry that is used, of another shelf, passes by the last test alone
pub last_test : (a b c : Bool) → a ≡ true → b ≡ false → (a && (not b && c)) ≡ c
last_test true true c used other = cc
last_test true false c used other = refl
last_test false b c used other = cc

-- ---- the row of a shelf

-- what an entry stands for
used_is : (shelf : ℕ) (row : Row) → row.used ≡ true → registration_if shelf row ≡ Some (registration_of shelf row)
used_is shelf row used = ap (λ b. cond b (Some (registration_of shelf row)) None) used

unused_is : (shelf : ℕ) (row : Row) → row.used ≡ false → registration_if shelf row ≡ None
unused_is shelf row unused = ap (λ b. cond b (Some (registration_of shelf row)) None) unused

module _ (loaded : Loaded) (shelf : ℕ) (state : Persistent) (same : state.rows ≡ rows_of loaded) (law : row_on_shelf state shelf ≡ option_and_then (registration_if shelf) (slice_get loaded.rows shelf)) where
  row_is : (entry : Option Row) → slice_get loaded.rows shelf ≡ entry → row_on (rows_of loaded) shelf ≡ option_and_then (registration_if shelf) entry
  row_is entry is = ap (λ (rows : List Registration). row_on rows shelf) (sym same) ∙ law ∙ ap (λ e. option_and_then (registration_if shelf) e) is

  pub row_used : (row : Row) → slice_get loaded.rows shelf ≡ Some row → row.used ≡ true → row_on (rows_of loaded) shelf ≡ Some (registration_of shelf row)
  row_used row is used = row_is (Some row) is ∙ used_is shelf row used

  pub row_unused : (row : Row) → slice_get loaded.rows shelf ≡ Some row → row.used ≡ false → row_on (rows_of loaded) shelf ≡ None
  row_unused row is unused = row_is (Some row) is ∙ unused_is shelf row unused

  pub row_beyond : slice_get loaded.rows shelf ≡ None → row_on (rows_of loaded) shelf ≡ None
  row_beyond is = row_is None is

-- ---- a shelf that is taken

found_or : {X : Type 0} (b : Bool) (x : X) (rest : Option X) (tests : Bool) → tests ≡ is_some rest → (b || tests) ≡ is_some (cond b (Some x) rest)
found_or true x rest tests is = refl
found_or false x rest tests is = is

any_is_found : {X : Type 0} (p : X → Bool) (xs : List X) → list_any p xs ≡ is_some (find p xs)
any_is_found p [] = refl
any_is_found p (x ∷ xs) = found_or (p x) x (find p xs) (list_any p xs) (any_is_found p xs)

other_or : (here : Bool) (first rest others : Bool) (tests : Bool) → (here || tests) ≡ false → (tests ≡ false → others ≡ rest) → ((not here && first) || others) ≡ (first || rest)
other_or true first rest others tests free same = cc
other_or false first rest others tests free same = ap (λ b. first || b) (same free)

-- where the shelf is free, all rows are of others
all_are_others : (shelf : ℕ) (p : Registration → Bool) (rows : List Registration) → list_any (is_on shelf) rows ≡ false → list_any (λ row. not (is_on shelf row) && p row) rows ≡ list_any p rows
all_are_others shelf p [] free = refl
all_are_others shelf p (row ∷ rows) free =
    other_or (is_on shelf row) (p row) (list_any p rows) (list_any (λ other. not (is_on shelf other) && p other) rows) (list_any (is_on shelf) rows) free (all_are_others shelf p rows)

module _ (rows : List Registration) (row : Registration) where
  pub taken_there : (there : Registration) → row_on rows row.shelf ≡ Some there → true ≡ is_taken rows row
  taken_there there is = sym (ap (λ b. b || (is_call_control row && list_any is_call_control rows)) (any_is_found (is_on row.shelf) rows ∙ ap is_some is))

  free_so : row_on rows row.shelf ≡ None → is_taken rows row ≡ (is_call_control row && is_answered rows row.shelf)
  free_so is =
      let free : list_any (is_on row.shelf) rows ≡ false = any_is_found (is_on row.shelf) rows ∙ ap is_some is in
      ap (λ b. b || (is_call_control row && list_any is_call_control rows)) free ∙ sym (ap (λ b. is_call_control row && b) (all_are_others row.shelf is_call_control rows free))

  pub taken_by_call : row_on rows row.shelf ≡ None → is_call_control row ≡ true → is_answered rows row.shelf ≡ is_taken rows row
  taken_by_call is call = sym (free_so is ∙ ap (λ b. b && is_answered rows row.shelf) call)

  pub not_taken : row_on rows row.shelf ≡ None → is_call_control row ≡ false → false ≡ is_taken rows row
  not_taken is call = sym (free_so is ∙ ap (λ b. b && is_answered rows row.shelf) call)

-- ---- the menu

abbrev pub items_from : ℕ → List Row → List Item
items_from from rows = menu_of (shown from rows)

item_or : (used shows : Bool) (row : Registration) (rest : List Registration) → has_text row ≡ shows → menu_of (cond used (row ∷ rest) rest) ≡ cond (used && shows) (item_of row ∷ menu_of rest) (menu_of rest)
item_or true shows row rest is = ap (λ b. map item_of (cond b (row ∷ filter has_text rest) (filter has_text rest))) is ∙ mapped shows where
  mapped : (b : Bool) → map item_of (cond b (row ∷ filter has_text rest) (filter has_text rest)) ≡ cond b (item_of row ∷ menu_of rest) (menu_of rest)
  mapped true = refl
  mapped false = refl
item_or false shows row rest is = refl

shown_next : (used : Bool) (from : ℕ) (row : Row) (rows : List Row) → map told (cond used ((from, row) ∷ filter (λ entry. entry.1.used) (enumerate_from (from + 1) rows)) (filter (λ entry. entry.1.used) (enumerate_from (from + 1) rows)))
    ≡ cond used (registration_of from row ∷ shown (from + 1) rows) (shown (from + 1) rows)
shown_next true from row rows = refl
shown_next false from row rows = refl

first_item : (from : ℕ) (row : Row) (rows : List Row) → items_from from (row ∷ rows) ≡ cond (shows_item row) (item_of (registration_of from row) ∷ items_from (from + 1) rows) (items_from (from + 1) rows)
first_item from row rows = ap menu_of (shown_next row.used from row rows) ∙ item_or row.used (has_row_text row) (registration_of from row) (shown (from + 1) rows) refl

next_items : (rows : List Row) (from : ℕ) (row : Row) → from + 1 ≤ length rows → row ≡ get_or rows from row
    → items_from from (drop from rows) ≡ cond (shows_item row) (item_of (registration_of from row) ∷ items_from (from + 1) (drop (from + 1) rows)) (items_from (from + 1) (drop (from + 1) rows))
next_items rows from row low is =
    ap (λ (rest : List Row). items_from from rest) (drop-cons rows from row (omega arith) ∙ ap (λ (n : ℕ). get_or rows from row ∷ drop n rows) one_more ∙ ap (λ (r : Row). r ∷ drop (from + 1) rows) (sym is)) ∙ first_item from row (drop (from + 1) rows)
  where
    one_more : suc from ≡ from + 1
    one_more = omega arith

-- the items so far and those of the rows that are left come to the whole menu; so they do with one more
module _ (rows : List Row) (items whole : List Item) (from : ℕ) (row : Row) (low : from + 1 ≤ length rows) (is : row ≡ get_or rows from row) (so_far : items ++ items_from from (drop from rows) ≡ whole) where
  pub with_item : shows_item row ≡ true → (items ++ item_of (registration_of from row) ∷ []) ++ items_from (from + 1) (drop (from + 1) rows) ≡ whole
  with_item shows =
      let next = next_items rows from row low is ∙ ap (λ b. cond b (item_of (registration_of from row) ∷ items_from (from + 1) (drop (from + 1) rows)) (items_from (from + 1) (drop (from + 1) rows))) shows in
      append_assoc items (item_of (registration_of from row) ∷ []) (items_from (from + 1) (drop (from + 1) rows)) ∙ ap (λ (l : List Item). items ++ l) (sym next) ∙ so_far

-- Items that don't go on with the item of a row that is shown are not the menu.
module _ (Whole : Type 0) (rows : List Row) (rest : List Item) (from : ℕ) (row : Row) (low : from + 1 ≤ length rows) (is : row ≡ get_or rows from row) (so_far : Whole ↔ (rest ≡ items_from from (drop from rows))) where
  next_shown : shows_item row ≡ true → items_from from (drop from rows) ≡ item_of (registration_of from row) ∷ items_from (from + 1) (drop (from + 1) rows)
  next_shown shows = next_items rows from row low is ∙ ap (λ b. cond b (item_of (registration_of from row) ∷ items_from (from + 1) (drop (from + 1) rows)) (items_from (from + 1) (drop (from + 1) rows))) shows

  pub not_whole : shows_item row ≡ true → ((others : List Item) → rest ≢ item_of (registration_of from row) ∷ others) → Whole → ⊥
  not_whole shows none whole = none (items_from (from + 1) (drop (from + 1) rows)) (so_far.0 whole ∙ next_shown shows)

-- a menu of so many texts has so many items
pub item_count : (rows : List Registration) → length (menu_of rows) ≡ count_by has_text rows
item_count rows = length-map (filter has_text rows) item_of ∙ length-filter has_text rows
