-- Rows whose codes change, or stay as they are.
use Rattle.std.proofs.Common.{◌≡◌, ℕ, Bool, true, false, cond, List, [], ◌∷◌, map, filter, get_or, Option, Some, None, refl, sym, subst, ◌∙◌, ap, arith, All, ◌==◌, ◌||◌, ◌↔◌, not, option_map, Contains, IsSome, ap₂}
use Rattle.std.proofs.lemmas.Bool.{eqb-true, false≢true, or_right}
use Rattle.std.proofs.lemmas.Bool.Decides.{nat_tests}
use Rattle.std.proofs.lemmas.Map.Views.{Contains-from_any}
use Rattle.std.proofs.lemmas.List.Elements.{All-head, All-tail, All-weaker, All-map, All-filter, All-contains, All-contains_itself, filter_passes}
use Rattle.std.specs.Int.{bit_at}
use Rattle.std.specs.List.{list_any}
use Rattle.std.specs.Option.{option_map_or}
use Rattle.card_state.specs.declared.entries.Loaded.{Loaded}
use Rattle.card_state.specs.Events.{SettingAddsCode}
use Rattle.card_state.specs.Kinds.{event_codes, codes_of}
use Rattle.card_state.specs.Persistent.{Registration}
use Rattle.card_state.specs.Sections.{is_code, sorted_codes}
use Rattle.card_state.specs.StateLaws.{IsOfRow, RowsAreEntries, RowsComeFromEntries, StatesAreOfTables}
use Rattle.card_state.specs.States.{rows_of, state_of}
use Rattle.toolkit_model.specs.Order.{is_for}
use Rattle.toolkit_model.specs.Registry.{is_on, row_on, with_changed, is_registered, with_code, without_code}
use Rattle.applet_registry.proofs.RowsOfLemmas.{row_used}

-- a row that is registered for one code more, and for one less
abbrev adding : ℕ → Registration → Registration
adding code row = record row { codes = sorted_codes (code ∷ row.codes) }

abbrev removing : ℕ → Registration → Registration
removing code row = record row { codes = filter (λ other. not (other == code)) row.codes }

-- ---- codes

-- the code is that of a bit which is set
record IsSet (bits code : ℕ) : Type 0 where
  bit : ℕ
  known : Contains event_codes (code, bit)
  set : bit_at bits bit ≡ 1

sets : (bits : ℕ) → All (IsSet bits) (codes_of bits)
sets bits =
    let is_set : ℕ × ℕ → Bool = λ event. bit_at bits event.1 == 1 in
    All-map (IsSet bits) (λ (event : ℕ × ℕ). event.0) (filter is_set event_codes)
    (λ k d low. record {
      bit = (get_or (filter is_set event_codes) k d).1;
      known = All-filter is_set (Contains event_codes) event_codes (All-contains_itself event_codes) k d low;
      set = eqb-true (bit_at bits (get_or (filter is_set event_codes) k d).1) 1 (filter_passes is_set event_codes k d low);
    })

set_of : (bits code : ℕ) → list_any (λ other. other == code) (codes_of bits) ≡ true → IsSet bits code
set_of bits code found =
    All-contains (IsSet bits) (codes_of bits) code (sets bits) (Contains-from_any {eq = λ x y. y == x} (λ x y is. sym (eqb-true y x is)) code (codes_of bits) found)

-- a code that is there is not added
stay_with : SettingAddsCode → (bits code : ℕ) → list_any (λ other. other == code) (codes_of bits) ≡ true → sorted_codes (code ∷ codes_of bits) ≡ codes_of bits
stay_with adds bits code found =
    let is = set_of bits code found in
    sym (adds code is.bit bits bits is.known (record { set = is.set; others = λ other differs. refl }))

abbrev has : ℕ → List ℕ → Bool
has code codes = list_any (λ other. other == code) codes

abbrev without : ℕ → List ℕ → List ℕ
without code codes = filter (λ other. not (other == code)) codes

-- those of a table whose codes are these
abbrev among : List ℕ → List (ℕ × ℕ) → List (ℕ × ℕ)
among codes table = filter (λ event. list_any (λ other. other == event.0) codes) table

abbrev codes_in : List (ℕ × ℕ) → List ℕ
codes_in table = map (λ event. event.0) table

-- a code that isn't there is not removed
stay_without : (code : ℕ) (codes : List ℕ) → has code codes ≡ false → without code codes ≡ codes
stay_without code [] none = refl
stay_without code (first ∷ codes) none = by_test (first == code) refl (stay_without code codes) where
  by_test : (b : Bool) → (first == code) ≡ b → (has code codes ≡ false → without code codes ≡ codes) → without code (first ∷ codes) ≡ first ∷ codes
  by_test true is later = absurd (false≢true (sym none ∙ ap (λ c. c || has code codes) is))
  by_test false is later =
      ap (λ c. cond (not c) (first ∷ without code codes) (without code codes)) is
      ∙ ap (λ (others : List ℕ). first ∷ others) (later (sym (ap (λ c. c || has code codes) is) ∙ none))

-- a code that was added is there, and one that was removed isn't
one_more : (code : ℕ) (rest : List (ℕ × ℕ)) (event : ℕ × ℕ) (b : Bool) → has code (codes_in rest) ≡ true → has code (codes_in (cond b (event ∷ rest) rest)) ≡ true
one_more code rest event true later = or_right (event.0 == code) (has code (codes_in rest)) later
one_more code rest event false later = later

abbrev Added : ℕ → List ℕ → List (ℕ × ℕ) → Type 0
Added code codes table = list_any (λ event. event.0 == code) table ≡ true → has code (codes_in (among (code ∷ codes) table)) ≡ true

added_among : (code : ℕ) (codes : List ℕ) (table : List (ℕ × ℕ)) → Added code codes table
added_among code codes [] known = known
added_among code codes (event ∷ table) known = by_test (event.0 == code) refl (added_among code codes table) where
  by_test : (b : Bool) → (event.0 == code) ≡ b → Added code codes table → has code (codes_in (among (code ∷ codes) (event ∷ table))) ≡ true
  by_test true is later =
      let turned : (code == event.0) ≡ true = grind (arith, nat_tests, is) in
      ap (λ c. has code (codes_in (cond (c || list_any (λ other. other == event.0) codes) (event ∷ among (code ∷ codes) table) (among (code ∷ codes) table)))) turned
      ∙ ap (λ c. c || has code (codes_in (among (code ∷ codes) table))) is
  by_test false is later =
      one_more code (among (code ∷ codes) table) event (list_any (λ other. other == event.0) (code ∷ codes)) (later (sym (ap (λ c. c || list_any (λ e. e.0 == code) table) is) ∙ known))

removed_from : (code : ℕ) (codes : List ℕ) → has code (without code codes) ≡ false
removed_from code [] = refl
removed_from code (first ∷ codes) = by_test (first == code) refl (removed_from code codes) where
  by_test : (b : Bool) → (first == code) ≡ b → has code (without code codes) ≡ false → has code (without code (first ∷ codes)) ≡ false
  by_test true is later = ap (λ c. has code (cond (not c) (first ∷ without code codes) (without code codes))) is ∙ later
  by_test false is later =
      ap (λ c. has code (cond (not c) (first ∷ without code codes) (without code codes))) is ∙ ap (λ c. c || has code (without code codes)) is ∙ later

-- ---- rows

-- a change that leaves the rows of the shelf as they are
same_rows : (change : Registration → Registration) (shelf : ℕ) (rows : List Registration) → All (λ row. is_on shelf row ≡ true → change row ≡ row) rows → with_changed rows shelf change ≡ rows
same_rows change shelf [] all = refl
same_rows change shelf (row ∷ rows) all =
    ap₂ (λ (r : Registration) (rs : List Registration). r ∷ rs) (kept (is_on shelf row) refl) (same_rows change shelf rows (All-tail (λ row. is_on shelf row ≡ true → change row ≡ row) row rows all)) where
      kept : (b : Bool) → is_on shelf row ≡ b → cond b (change row) row ≡ row
      kept true is = All-head (λ row. is_on shelf row ≡ true → change row ≡ row) row rows all is
      kept false is = refl

-- the row of the shelf is found as it was changed
found_changed : (change : Registration → Registration) (stays : (row : Registration) → (change row).shelf ≡ row.shelf) (shelf : ℕ) (rows : List Registration)
    → row_on (with_changed rows shelf change) shelf ≡ option_map change (row_on rows shelf)
found_changed change stays shelf [] = refl
found_changed change stays shelf (row ∷ rows) = by_test (is_on shelf row) refl (found_changed change stays shelf rows) where
  by_test : (b : Bool) → is_on shelf row ≡ b → row_on (with_changed rows shelf change) shelf ≡ option_map change (row_on rows shelf)
      → row_on (with_changed (row ∷ rows) shelf change) shelf ≡ option_map change (row_on (row ∷ rows) shelf)
  by_test true is rest =
      ap (λ c. cond (is_on shelf (cond c (change row) row)) (Some (cond c (change row) row)) (row_on (with_changed rows shelf change) shelf)) is
      ∙ ap (λ c. cond c (Some (change row)) (row_on (with_changed rows shelf change) shelf)) (ap (λ (n : ℕ). n == shelf) (stays row) ∙ is)
      ∙ sym (ap (λ c. option_map change (cond c (Some row) (row_on rows shelf))) is)
  by_test false is rest =
      ap (λ c. cond (is_on shelf (cond c (change row) row)) (Some (cond c (change row) row)) (row_on (with_changed rows shelf change) shelf)) is
      ∙ ap (λ c. cond c (Some row) (row_on (with_changed rows shelf change) shelf)) is
      ∙ rest
      ∙ sym (ap (λ c. option_map change (cond c (Some row) (row_on rows shelf))) is)

module _ (loaded : Loaded) (are : RowsAreEntries) (come : RowsComeFromEntries) (tables : StatesAreOfTables) where
  abbrev rows : List Registration
  rows = rows_of loaded

  of_entry : (row : Registration) → Contains rows row → IsOfRow loaded row
  of_entry row there = come loaded [] row (subst (λ (rs : List Registration). Contains rs row) (sym (tables loaded []).rows) there)

  -- a row of the table is the one that is found on its shelf
  found : (row : Registration) → Contains rows row → row_on rows row.shelf ≡ Some row
  found row there =
      let is = of_entry row there in
      row_used loaded row.shelf (state_of loaded []) (tables loaded []).rows (are loaded [] row.shelf) is.entry is.has.there is.has.used ∙ ap (λ (r : Registration). Some r) (sym is.same)

  registered_is : (shelf code : ℕ) (row : Registration) → Contains rows row → is_on shelf row ≡ true → is_registered rows shelf code ≡ is_for code row
  registered_is shelf code row there on =
      ap (λ (n : ℕ). option_map_or (is_for code) (row_on rows n) false) (sym (eqb-true row.shelf shelf on)) ∙ ap (λ (r : Option Registration). option_map_or (is_for code) r false) (found row there)

  module _ (shelf code : ℕ) where
    stay_registered : SettingAddsCode → is_registered rows shelf code ≡ true → with_code rows shelf code ≡ rows
    stay_registered adds registered = same_rows (adding code) shelf rows
        (All-weaker (Contains rows) (λ row. is_on shelf row ≡ true → record row { codes = sorted_codes (code ∷ row.codes) } ≡ row) each rows (All-contains_itself rows)) where
          each : (row : Registration) → Contains rows row → is_on shelf row ≡ true → record row { codes = sorted_codes (code ∷ row.codes) } ≡ row
          each row there on =
              let is = of_entry row there in
              let codes_are : row.codes ≡ codes_of is.entry.events = ap (λ (r : Registration). r.codes) is.same in
              let among : list_any (λ other. other == code) (codes_of is.entry.events) ≡ true = ap (λ (cs : List ℕ). list_any (λ other. other == code) cs) (sym codes_are) ∙ sym (registered_is shelf code row there on) ∙ registered in
              let same : sorted_codes (code ∷ row.codes) ≡ row.codes = ap (λ (cs : List ℕ). sorted_codes (code ∷ cs)) codes_are ∙ stay_with adds is.entry.events code among ∙ sym codes_are in
              ap (λ (cs : List ℕ). let r : Registration = record row { codes = cs } in r) same

    stay_unregistered : is_registered rows shelf code ≡ false → without_code rows shelf code ≡ rows
    stay_unregistered registered = same_rows (removing code) shelf rows
        (All-weaker (Contains rows) (λ row. is_on shelf row ≡ true → record row { codes = filter (λ other. not (other == code)) row.codes } ≡ row) each rows (All-contains_itself rows)) where
          each : (row : Registration) → Contains rows row → is_on shelf row ≡ true → record row { codes = filter (λ other. not (other == code)) row.codes } ≡ row
          each row there on =
              ap (λ (cs : List ℕ). let r : Registration = record row { codes = cs } in r) (stay_without code row.codes (sym (registered_is shelf code row there on) ∙ registered))

    is_added : is_code code ≡ true → IsSome (row_on rows shelf) → is_registered (with_code rows shelf code) shelf code ≡ true
    is_added known row =
        ap (λ (r : Option Registration). option_map_or (is_for code) r false) (found_changed (adding code) (λ row. refl) shelf rows) ∙ by_row (row_on rows shelf) row where
          by_row : (there : Option Registration) → IsSome there → option_map_or (is_for code) (option_map (adding code) there) false ≡ true
          by_row None some = absurd (false≢true some)
          by_row (Some row) some = added_among code row.codes event_codes known

    is_removed : is_registered (without_code rows shelf code) shelf code ≡ false
    is_removed =
        ap (λ (r : Option Registration). option_map_or (is_for code) r false) (found_changed (removing code) (λ row. refl) shelf rows) ∙ by_row (row_on rows shelf) where
          by_row : (there : Option Registration) → option_map_or (is_for code) (option_map (removing code) there) false ≡ false
          by_row None = refl
          by_row (Some row) = removed_from code row.codes

    turned : (a b : Bool) → not a ≡ b → b ≡ false → a ≡ true
    turned true b is off = refl
    turned false b is off = absurd (false≢true (sym off ∙ sym is))

    -- what REGISTER changes: nothing where the row is registered already
    pub registering_changes : SettingAddsCode → is_code code ≡ true → IsSome (row_on rows shelf) → (not (is_registered rows shelf code) ≡ false) ↔ (with_code rows shelf code ≡ rows)
    registering_changes adds known row = (
      λ is. stay_registered adds (turned (is_registered rows shelf code) _ refl is),
      λ same. ap not (ap (λ (rs : List Registration). is_registered rs shelf code) (sym same) ∙ is_added known row),
    )

    pub deregistering_changes : (is_registered rows shelf code ≡ false) ↔ (without_code rows shelf code ≡ rows)
    deregistering_changes = (
      λ is. stay_unregistered is,
      λ same. ap (λ (rs : List Registration). is_registered rs shelf code) (sym same) ∙ is_removed,
    )
