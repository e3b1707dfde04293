-- The applets that an event or an envelope triggers: their rows are there, and they are different ones.
use Rattle.std.proofs.Common.{◌≡◌, refl, sym, ap, ◌∙◌, subst, ℕ, zero, suc, ◌+◌, ◌-◌, ◌<◌, Bool, true, false, not, cond, List, [], ◌∷◌, map, get_or, Option, Some, None, arith, ◌≢◌, ◌≤◌, ◌==◌, ◌&&◌, ◌||◌, nat_lt, length, filter, find, slice_get, slice_index_or, All, AllPairs, Contains, IfSome, option_and_then}
use Rattle.std.specs.Option.{option_map_or}
use Rattle.std.proofs.lemmas.Bool.Decides.{nat_tests}
use Rattle.std.proofs.lemmas.List.Elements.{All-nil, All-cons, All-map, Contains-get_or, filter_agree}
use Rattle.list_laws.proofs.AllPairsLemmas.{pairs_head, pairs_tail, pairs_map}
use Rattle.uicc_types.specs.declared.identifiers.Shelf.{Shelf}
use Rattle.card_state.specs.declared.entries.Row.{Row}
use Rattle.card_state.specs.declared.entries.Loaded.{Loaded}
use Rattle.card_state.specs.Checks.{has_row_text}
use Rattle.card_state.specs.Persistent.{Registration}
use Rattle.card_state.specs.Sections.{has_text}
use Rattle.card_state.specs.StateLaws.{RowsAreEntries, RowsComeFromEntries, StatesAreOfTables}
use Rattle.card_state.specs.States.{registration_of, rows_of}
use Rattle.card_state.specs.Used.{registration_if}
use Rattle.card_commits.specs.Entries.{HasRowOn}
use Rattle.toolkit_commands.specs.declared.envelopes.Envelope.{Envelope}
use Rattle.timer_table.specs.Timers.{Owners, owner_of}
use Rattle.toolkit_model.specs.Sessions.{Sent}
use Rattle.toolkit_model.specs.Orderly.{IsRegistered}
use Rattle.toolkit_model.specs.Registry.{item_of}
use Rattle.toolkit_model.specs.Driving.{is_idle}
use Rattle.toolkit_model.specs.Commands.{selected, late_places, is_call}
use Rattle.event_dispatch.specs.Targets.{AreTargets}
use Rattle.proactive_handler.proofs.SessionsAreServedLemmas.{row_has}
use Rattle.cat_commands.specs.Trying.{is_busy_with, has_item_on}

abbrev pub Apart : List ℕ → Type 0
Apart shelves = AllPairs (λ a b. a ≢ b) shelves

-- ---- a registration of a table has a row on its shelf

module _ (come : RowsComeFromEntries) (tables : StatesAreOfTables) (table : Loaded) where
  pub contained_has : (row : Registration) → Contains (rows_of table) row → HasRowOn table row.shelf
  contained_has row there = row_has table row (come table [] row (subst (λ (rows : List Registration). Contains rows row) (sym (tables table []).rows) there))

  each_has : All (λ (row : Registration). HasRowOn table row.shelf) (rows_of table)
  each_has = λ k d low. contained_has (get_or (rows_of table) k d) (Contains-get_or (rows_of table) k d low)

  pub registered_has : (shelf : ℕ) → IsRegistered (rows_of table) shelf → HasRowOn table shelf
  registered_has shelf there =
      let all : All (HasRowOn table) (map (λ row. row.shelf) (rows_of table)) = All-map (HasRowOn table) (λ row. row.shelf) (rows_of table) each_has in
      subst (HasRowOn table) there.2 (all there.0 shelf there.1)

  ordered_has : (order : List Registration) → ((row : Registration) → Contains order row → Contains (rows_of table) row) → All (λ (row : Registration). HasRowOn table row.shelf) order
  ordered_has order within = λ k d low. contained_has (get_or order k d) (within (get_or order k d) (Contains-get_or order k d low))

  -- ---- the targets of an event

  pub targets_have : (code : ℕ) (shelves : List ℕ) → AreTargets (rows_of table) code shelves → All (HasRowOn table) shelves
  targets_have code shelves are =
      subst (All (HasRowOn table)) (sym are.stand)
      (All-map (HasRowOn table) (λ row. row.shelf) are.order (ordered_has are.order (λ row there. (are.right.registered row there).0)))

  -- ---- the holder of a timer

  within : (timers : Owners) (place : ℕ) (shelf : Shelf) → All (λ owner. IfSome owner (λ s. IsRegistered (rows_of table) s.0)) timers → slice_index_or timers place None ≡ Some shelf → IsRegistered (rows_of table) shelf.0
  within [] place shelf all is = cc is
  within (owner ∷ timers) zero shelf all is = subst (λ (o : Option Shelf). IfSome o (λ s. IsRegistered (rows_of table) s.0)) is (all 0 owner (omega arith))
  within (owner ∷ timers) (suc place) shelf all is = within timers place shelf (λ k d low. all (suc k) d (omega (arith, low))) is

  pub holder_has : (timers : Owners) (timer : ℕ) (shelf : Shelf) → All (λ owner. IfSome owner (λ s. IsRegistered (rows_of table) s.0)) timers → owner_of timers timer ≡ Some shelf → HasRowOn table shelf.0
  holder_has timers timer shelf all is = registered_has shelf.0 (by_zero (timer == 0) is) where
    by_zero : (b : Bool) → cond b None (slice_index_or timers (timer - 1) None) ≡ Some shelf → IsRegistered (rows_of table) shelf.0
    by_zero true none = cc none
    by_zero false found = within timers (timer - 1) shelf all found

pub targets_apart : (rows : List Registration) (code : ℕ) (shelves : List ℕ) → AreTargets rows code shelves → Apart shelves
targets_apart rows code shelves are = subst Apart (sym are.stand) (pairs_map (λ (a b : ℕ). a ≢ b) (λ row. row.shelf) are.order are.right.once)

-- ---- one shelf

pub one_has : (P : ℕ → Type 0) (shelves : List ℕ) (shelf : ℕ) → shelves ≡ shelf ∷ [] → P shelf → All P shelves
one_has P shelves shelf is holds = subst (All P) (sym is) (All-cons P shelf [] holds (All-nil P))

-- ---- the row whose item was selected

module _ (keeps : Registration → Bool) (shelf : ℕ) where
  abbrev picks : Registration → Bool
  picks row = keeps row && (row.shelf == shelf)

  abbrev kept : Option Registration → List Registration
  kept None = []
  kept (Some row) = cond (keeps row) (row ∷ []) []

  skipped : (row : Registration) (a : Bool) (rest others : List Registration) → rest ≡ others → (row.shelf == shelf) ≡ false → cond (a && (row.shelf == shelf)) (row ∷ rest) rest ≡ others
  skipped row true rest others same is = ap (λ (b : Bool). cond b (row ∷ rest) rest) is ∙ same
  skipped row false rest others same is = same

  none_above : (rows : List Registration) → All (λ row. shelf < row.shelf) rows → filter picks rows ≡ []
  none_above [] above = refl
  none_above (row ∷ rows) above =
      let here : shelf < row.shelf = above 0 row (omega arith) in
      skipped row (keeps row) (filter picks rows) [] (none_above rows (λ k d low. above (suc k) d (omega (arith, low)))) (grind (arith, nat_tests, here))

  by_row : (row : Registration) (rest : List Registration) (found : Option Registration) (b : Bool) → (row.shelf == shelf) ≡ b → (b ≡ true → rest ≡ []) → (b ≡ false → rest ≡ kept found)
      → cond (keeps row && (row.shelf == shelf)) (row ∷ rest) rest ≡ kept (cond b (Some row) found)
  by_row row rest found true is none same = of_kept (keeps row) where
    of_kept : (a : Bool) → cond (a && (row.shelf == shelf)) (row ∷ rest) rest ≡ cond a (row ∷ []) []
    of_kept true = ap (λ (b : Bool). cond b (row ∷ rest) rest) is ∙ ap (λ (r : List Registration). row ∷ r) (none refl)
    of_kept false = none refl
  by_row row rest found false is none same = skipped row (keeps row) rest (kept found) (same refl) is

  picked : (rows : List Registration) → AllPairs (λ a b. a.shelf < b.shelf) rows → filter picks rows ≡ kept (find (λ row. row.shelf == shelf) rows)
  picked [] ascend = refl
  picked (row ∷ rows) ascend =
      by_row row (filter picks rows) (find (λ r. r.shelf == shelf) rows) (row.shelf == shelf) refl
      (λ same. none_above rows (subst (λ (n : ℕ). All (λ r. n < r.shelf) rows) (grind (arith, nat_tests, same)) (pairs_head (λ a b. a.shelf < b.shelf) row rows ascend)))
      (λ other. picked rows (pairs_tail (λ a b. a.shelf < b.shelf) row rows ascend))

abbrev shelves_of : List Registration → List ℕ
shelves_of rows = map (λ row. row.shelf) rows

item_agrees : (row : Registration) (item shelf : ℕ) (a : Bool) → item ≡ shelf + 1 → (a && ((item_of row).id == item)) ≡ (a && (row.shelf == shelf))
item_agrees row item shelf true is = let same : ((row.shelf + 1) == (shelf + 1)) ≡ (row.shelf == shelf) = grind (arith, nat_tests) in ap (λ (n : ℕ). (row.shelf + 1) == n) is ∙ same
item_agrees row item shelf false is = refl

entry_shows : (shelf : ℕ) (entry : Option Row) → shelves_of (kept has_text shelf (option_and_then (registration_if shelf) entry)) ≡ cond (option_map_or (λ row. row.used && has_row_text row) entry false) (shelf ∷ []) []
entry_shows shelf None = refl
entry_shows shelf (Some row) = of_used row.used refl where
  of_text : (b : Bool) → has_row_text row ≡ b → shelves_of (cond b (registration_of shelf row ∷ []) []) ≡ cond b (shelf ∷ []) []
  of_text true is = refl
  of_text false is = refl

  of_used : (b : Bool) → row.used ≡ b → shelves_of (kept has_text shelf (cond b (Some (registration_of shelf row)) None)) ≡ cond (b && has_row_text row) (shelf ∷ []) []
  of_used true is = of_text (has_row_text row) refl
  of_used false is = refl

module _ (entries : RowsAreEntries) (tables : StatesAreOfTables) (table : Loaded) (ascend : AllPairs (λ a b. a.shelf < b.shelf) (rows_of table)) where
  pub selected_is : (item shelf : ℕ) → item ≡ shelf + 1 → selected (rows_of table) item ≡ cond (has_item_on table shelf) (shelf ∷ []) []
  selected_is item shelf is =
      ap shelves_of (filter_agree (λ row. has_text row && ((item_of row).id == item)) (picks has_text shelf) (λ row. item_agrees row item shelf (has_text row) is) (rows_of table) ∙ picked has_text shelf (rows_of table) ascend)
      ∙ ap (λ (o : Option Registration). shelves_of (kept has_text shelf o)) (ap (find (λ row. row.shelf == shelf)) (sym (tables table []).rows) ∙ entries table [] shelf)
      ∙ entry_shows shelf (slice_get table.rows shelf)

  no_item : (rows : List Registration) → filter (λ row. has_text row && ((item_of row).id == 0)) rows ≡ []
  no_item [] = refl
  no_item (row ∷ rows) = skip (has_text row) (no_item rows) where
    skip : (a : Bool) → filter (λ r. has_text r && ((item_of r).id == 0)) rows ≡ [] → cond (a && ((row.shelf + 1) == 0)) (row ∷ filter (λ r. has_text r && ((item_of r).id == 0)) rows) (filter (λ r. has_text r && ((item_of r).id == 0)) rows) ≡ []
    skip true rest = let is : ((row.shelf + 1) == 0) ≡ false = grind (arith, nat_tests) in ap (λ (b : Bool). cond b (row ∷ filter (λ r. has_text r && ((item_of r).id == 0)) rows) (filter (λ r. has_text r && ((item_of r).id == 0)) rows)) is ∙ rest
    skip false rest = rest

  pub selected_there : (item shelf : ℕ) → 0 < item → item - 1 ≡ shelf → has_item_on table shelf ≡ true → selected (rows_of table) item ≡ shelf ∷ []
  selected_there item shelf some is there = selected_is item shelf (omega (arith, some, is)) ∙ ap (λ (b : Bool). cond b (shelf ∷ []) []) there

  pub selected_none : (item shelf : ℕ) → 0 < item → item - 1 ≡ shelf → has_item_on table shelf ≡ false → selected (rows_of table) item ≡ []
  selected_none item shelf some is there = selected_is item shelf (omega (arith, some, is)) ∙ ap (λ (b : Bool). cond b (shelf ∷ []) []) there

  pub selected_zero : (item : ℕ) → item ≡ 0 → selected (rows_of table) item ≡ []
  selected_zero item is = ap (λ (n : ℕ). selected (rows_of table) n) is ∙ ap shelves_of (no_item (rows_of table))

-- ---- an applet that waits for an answer

count_mapped : (asked : List Sent) (shelves : List Shelf) → length (filter (λ shelf. not (is_idle asked shelf)) (map (λ shelf. shelf.0) shelves)) ≡ length (filter (λ shelf. not (is_idle asked shelf.0)) shelves)
count_mapped asked [] = refl
count_mapped asked (shelf ∷ shelves) = by_idle (not (is_idle asked shelf.0)) (count_mapped asked shelves) where
  by_idle : (b : Bool) → length (filter (λ s. not (is_idle asked s)) (map (λ s. s.0) shelves)) ≡ length (filter (λ s. not (is_idle asked s.0)) shelves)
      → length (cond b (shelf.0 ∷ filter (λ s. not (is_idle asked s)) (map (λ s. s.0) shelves)) (filter (λ s. not (is_idle asked s)) (map (λ s. s.0) shelves))) ≡ length (cond b (shelf ∷ filter (λ s. not (is_idle asked s.0)) shelves) (filter (λ s. not (is_idle asked s.0)) shelves))
  by_idle true rest = ap suc rest
  by_idle false rest = rest

module _ (asked : List Sent) (late free : ℕ) (envelope : Envelope) (listed : List Shelf) (shelves : List ℕ) (count : ℕ) (is : map (λ shelf. shelf.0) listed ≡ shelves)
    (count_is : count ≡ length (filter (λ shelf. not (is_idle asked shelf.0)) listed)) (free_is : free ≡ late_places - late) where
  busy_is : is_busy_with asked late envelope shelves ≡ (nat_lt free count || (is_call envelope && nat_lt 0 count))
  busy_is =
      let counted : length (filter (λ shelf. not (is_idle asked shelf)) shelves) ≡ count = ap (λ (s : List ℕ). length (filter (λ shelf. not (is_idle asked shelf)) s)) (sym is) ∙ count_mapped asked listed ∙ sym count_is in
      ap (λ (n : ℕ). nat_lt (late_places - late) n || (is_call envelope && nat_lt 0 n)) counted ∙ ap (λ (n : ℕ). nat_lt n count || (is_call envelope && nat_lt 0 count)) (sym free_is)

  either_true : (a b : Bool) → a ≡ true → a ≡ (a || b)
  either_true true b is = refl
  either_true false b is = cc is

  either_false : (a b : Bool) → a ≡ false → b ≡ (a || b)
  either_false true b is = cc is
  either_false false b is = refl

  more_is : free < count → nat_lt free count ≡ true
  more_is more = grind (arith, nat_tests, more)

  few_is : count ≤ free → nat_lt free count ≡ false
  few_is few = grind (arith, nat_tests, few)

  pub full_busy : free < count → nat_lt free count ≡ is_busy_with asked late envelope shelves
  full_busy more = either_true (nat_lt free count) (is_call envelope && nat_lt 0 count) (more_is more) ∙ sym busy_is

  pub call_busy : count ≤ free → is_call envelope ≡ true → nat_lt 0 count ≡ is_busy_with asked late envelope shelves
  call_busy more call = sym (ap (λ (b : Bool). b && nat_lt 0 count) call) ∙ either_false (nat_lt free count) (is_call envelope && nat_lt 0 count) (few_is more) ∙ sym busy_is

  pub others_busy : (called : Bool) → called ≡ is_call envelope → count ≤ free → called ≡ false → called ≡ is_busy_with asked late envelope shelves
  others_busy called so more call =
      call ∙ sym (ap (λ (b : Bool). b && nat_lt 0 count) (sym so ∙ call)) ∙ either_false (nat_lt free count) (is_call envelope && nat_lt 0 count) (few_is more) ∙ sym busy_is
