-- The row of a shelf, in a table and among the registrations that its rows stand for.
use Rattle.std.proofs.Common.{◌≡◌, refl, sym, ap, ◌∙◌, subst, ℕ, zero, suc, ◌<◌, ⊎_elim, inl, inr, ◌||◌, Bool, true, false, List, [], ◌∷◌, cond, map, length, get_or, Option, Some, None, arith, ◌==◌, ◌&&◌, ◌≢◌, ◌⊎◌, not, slice_get, slice_set, option_and_then, IsSome, IsSomeAnd, Contains, All, Ok, get_or-set_same, get_or-set_other, length-set}
use Rattle.std.specs.List.{list_any}
use Rattle.std.specs.Option.{option_map_or}
use Rattle.std.proofs.lemmas.Bool.{true≢false, eqb-true, eqb-false}
use Rattle.std.proofs.lemmas.Bool.Decides.{nat_tests}
use Rattle.std.proofs.lemmas.List.Elements.{All-cons, Contains-append_right, Contains-append_cases}
use Rattle.std.proofs.lemmas.Option.{get_or_from_slice_get, slice_get_within, slice_get-get_or}
use Rattle.card_state.specs.declared.entries.Row.{Row}
use Rattle.card_state.specs.declared.entries.Loaded.{Loaded}
use Rattle.card_state.specs.Blank.{unused_row}
use Rattle.card_state.specs.Kinds.{call_control_code}
use Rattle.card_state.specs.Persistent.{Registration}
use Rattle.card_state.specs.Sections.{is_code, is_call_control}
use Rattle.card_state.specs.StateLaws.{RowsAreEntries, StatesAreOfTables}
use Rattle.card_state.specs.States.{registration_of, rows_of}
use Rattle.card_state.specs.Used.{registration_if}
use Rattle.layout_laws.specs.StandingLaws.{NoOtherHasCallControl}
use Rattle.card_commits.specs.Entries.{HasRowOn, row_at, with_row_at}
use Rattle.card_commits.specs.Rows.{MayRegister}
use Rattle.toolkit_model.specs.declared.faults.RowFault.TheVariants.{BadData, Taken}
use Rattle.toolkit_model.specs.Orderly.{IsRegistered}
use Rattle.toolkit_model.specs.Running.{kept_on}
use Rattle.toolkit_model.specs.Registry.{faulty_if, is_on, row_on, is_answered, is_registered, registers}

-- ---- an entry that is used

shown_if : (used : Bool) (shelf : ℕ) (row : Row) → used ≡ true → IsSome (cond used (Some (registration_of shelf row)) None)
shown_if true shelf row is = refl
shown_if false shelf row is = is

shown : (shelf : ℕ) (entry : Option Row) → IsSomeAnd entry (λ row. row.used ≡ true) → IsSome (option_and_then (registration_if shelf) entry)
shown shelf (Some row) used = shown_if row.used shelf row used
shown shelf None used = absurd used

-- its shelf has a row
pub row_shown : (table : Loaded) (shelf : ℕ) → StatesAreOfTables → RowsAreEntries → HasRowOn table shelf → IsSome (row_on (rows_of table) shelf)
row_shown table shelf tables entries has =
    subst IsSome (sym (ap (λ (rows : List Registration). row_on rows shelf) (sym (tables table []).rows) ∙ entries table [] shelf)) (shown shelf (slice_get table.rows shelf) has)

-- what such a row keeps
pub row_kept : (table : Loaded) (shelf : ℕ) (row : Row) → StatesAreOfTables → RowsAreEntries → slice_get table.rows shelf ≡ Some row → row.used ≡ true → row_on (rows_of table) shelf ≡ Some (registration_of shelf row)
row_kept table shelf row tables entries there used =
    ap (λ (rows : List Registration). row_on rows shelf) (sym (tables table []).rows) ∙ entries table [] shelf ∙ ap (option_and_then (registration_if shelf)) there
    ∙ ap (λ (b : Bool). cond b (Some (registration_of shelf row)) None) used

-- what such a row keeps, where it is this one
module _ (table : Loaded) (shelf : ℕ) (row : Row) (tables : StatesAreOfTables) (entries : RowsAreEntries) (is : row ≡ get_or table.rows shelf row) where
  kept_at : (entry : Option Row) → slice_get table.rows shelf ≡ entry → IsSomeAnd entry (λ e. e.used ≡ true) → kept_on (rows_of table) shelf ≡ row.kept
  kept_at None there used = absurd used
  kept_at (Some e) there used =
      let same : e ≡ row = sym (get_or_from_slice_get table.rows shelf e row there) ∙ sym is in
      ap (λ (found : Option Registration). option_map_or (λ (r : Registration). r.kept) found []) (row_kept table shelf e tables entries there used) ∙ ap (λ (r : Row). r.kept) same

  pub kept_there : HasRowOn table shelf → kept_on (rows_of table) shelf ≡ row.kept
  kept_there has = kept_at (slice_get table.rows shelf) refl has

-- the entry, changed in other things than that it is used, is used
module _ (old new : Loaded) (shelf : ℕ) (row : Row) (is : new ≡ with_row_at old shelf row) where
  stays_at : (entry : Option Row) → slice_get old.rows shelf ≡ entry → IsSomeAnd entry (λ e. e.used ≡ true) → (row.used ≡ (row_at old shelf).used) → HasRowOn new shelf
  stays_at None there used same = absurd used
  stays_at (Some e) there used same =
      let within : shelf < length old.rows = slice_get_within old.rows shelf e there in
      let low : shelf < length (slice_set old.rows shelf row) = omega (arith, within, length-set old.rows shelf row) in
      let found : slice_get new.rows shelf ≡ Some row =
      ap (λ (t : Loaded). slice_get t.rows shelf) is ∙ slice_get-get_or (slice_set old.rows shelf row) shelf unused_row low ∙ ap (λ (r : Row). Some r) (get_or-set_same old.rows shelf row unused_row within) in
      let is_used : row.used ≡ true = same ∙ ap (λ (r : Row). r.used) (get_or_from_slice_get old.rows shelf e unused_row there) ∙ used in
      subst (λ (o : Option Row). IsSomeAnd o (λ r. r.used ≡ true)) (sym found) is_used

  row_stays : HasRowOn old shelf → row.used ≡ (row_at old shelf).used → HasRowOn new shelf
  row_stays has same = stays_at (slice_get old.rows shelf) refl has same

  other_at : (other : ℕ) (entry : Option Row) → other ≢ shelf → slice_get old.rows other ≡ entry → IsSomeAnd entry (λ e. e.used ≡ true) → HasRowOn new other
  other_at other None apart there used = absurd used
  other_at other (Some e) apart there used =
      let within : other < length old.rows = slice_get_within old.rows other e there in
      let low : other < length (slice_set old.rows shelf row) = omega (arith, within, length-set old.rows shelf row) in
      let found : slice_get new.rows other ≡ Some e =
      ap (λ (t : Loaded). slice_get t.rows other) is ∙ slice_get-get_or (slice_set old.rows shelf row) other unused_row low
      ∙ ap (λ (r : Row). Some r) (get_or-set_other old.rows shelf other row unused_row apart ∙ get_or_from_slice_get old.rows other e unused_row there) in
      subst (λ (o : Option Row). IsSomeAnd o (λ r. r.used ≡ true)) (sym found) used

  stays_by : (other : ℕ) (b : Bool) → (other == shelf) ≡ b → HasRowOn old shelf → row.used ≡ (row_at old shelf).used → HasRowOn old other → HasRowOn new other
  stays_by other true test has same there = subst (λ (n : ℕ). HasRowOn new n) (sym (eqb-true other shelf test)) (row_stays has same)
  stays_by other false test has same there = other_at other (slice_get old.rows other) (eqb-false other shelf test) refl there

  -- and so are all others that were
  pub rows_stay : HasRowOn old shelf → row.used ≡ (row_at old shelf).used → (other : ℕ) → HasRowOn old other → HasRowOn new other
  rows_stay has same other there = stays_by other (other == shelf) refl has same there

pub rows_as_before : (old new : Loaded) → new ≡ old → (other : ℕ) → HasRowOn old other → HasRowOn new other
rows_as_before old new same other there = subst (λ (t : Loaded). HasRowOn t other) (sym same) there

-- ---- a row that is found

there_first : (b : Bool) (shelf : ℕ) (row : Registration) (rows : List Registration) → (row.shelf == shelf) ≡ b → IsSome (cond b (Some row) (row_on rows shelf)) → (IsSome (row_on rows shelf) → IsRegistered rows shelf)
    → IsRegistered (row ∷ rows) shelf
there_first true shelf row rows is found later = (0, omega arith, eqb-true row.shelf shelf is)
there_first false shelf row rows is found later = Contains-append_right (row.shelf ∷ []) (map (λ r. r.shelf) rows) shelf (later found)

pub registered_there : (rows : List Registration) (shelf : ℕ) → IsSome (row_on rows shelf) → IsRegistered rows shelf
registered_there [] shelf found = absurd (cc found)
registered_there (row ∷ rows) shelf found = there_first (row.shelf == shelf) shelf row rows refl found (registered_there rows shelf)

-- ---- a row that may be registered

admitted_so : (known call answered registered : Bool) → faulty_if (not known) BadData (faulty_if (call && answered) Taken (Ok (not registered))) ≡ Ok true → (known ≡ true) × ((call ≡ false) ⊎ (answered ≡ false))
admitted_so true true true registered = λ is. cc is
admitted_so true true false registered = λ is. (refl, inr refl)
admitted_so true false answered registered = λ is. (refl, inl refl)
admitted_so false call answered registered = λ is. cc is

none_of : (a b rest : Bool) → (a && b || rest) ≡ false → rest ≡ false
none_of true true rest is = cc is
none_of true false rest is = is
none_of false b rest is = is

first_false : (a b rest : Bool) → (a && b || rest) ≡ false → a ≡ true → b ≡ false
first_false true true rest is holds = cc is
first_false true false rest is holds = refl
first_false false b rest is holds = cc holds

any_there : (codes : List ℕ) (code : ℕ) → Contains codes code → list_any (λ other. other == code) codes ≡ true
any_there [] code there = absurd (omega arith)
any_there (first ∷ codes) code there =
    ⊎_elim {C = list_any (λ other. other == code) (first ∷ codes) ≡ true}
    (λ here. or_first (first == code) (list_any (λ other. other == code) codes) (number_same first code (only_there first code here)))
    (λ later. or_second (first == code) (list_any (λ other. other == code) codes) (any_there codes code later))
    (Contains-append_cases (first ∷ []) codes code there)
  where
    or_first : (a b : Bool) → a ≡ true → (a || b) ≡ true
    or_first true b holds = refl
    or_first false b holds = cc

    or_second : (a b : Bool) → b ≡ true → (a || b) ≡ true
    or_second true b holds = refl
    or_second false b holds = holds

    number_same : (a b : ℕ) → a ≡ b → (a == b) ≡ true
    number_same a b same = grind (arith, nat_tests, same)

    only_there : (a b : ℕ) → Contains (a ∷ []) b → a ≡ b
    only_there a b (zero, low, is) = is
    only_there a b (suc k, low, is) = absurd (omega arith)

another : (row : Registration) (shelf : ℕ) → row.shelf ≢ shelf → not (is_on shelf row) ≡ true
another row shelf apart = grind (arith, nat_tests, apart)

alone : (rows : List Registration) (shelf : ℕ) → is_answered rows shelf ≡ false → All (λ other. other.shelf ≢ shelf → Contains other.codes call_control_code → ⊥) rows
alone [] shelf is = λ k d low. absurd (omega arith)
alone (row ∷ rows) shelf is =
    All-cons (λ (other : Registration). other.shelf ≢ shelf → Contains other.codes call_control_code → ⊥) row rows
    (λ apart there. true≢false (sym (any_there row.codes call_control_code there) ∙ first_false (not (is_on shelf row)) (is_call_control row) (is_answered rows shelf) is (another row shelf apart)))
    (alone rows shelf (none_of (not (is_on shelf row)) (is_call_control row) (is_answered rows shelf) is))

not_call : (code : ℕ) → (code == call_control_code) ≡ false → code ≢ call_control_code
not_call code is same = absurd (grind (arith, nat_tests, is, same))

-- an event that a row is to be registered for may be one of it
pub may_register : (table : Loaded) (shelf code : ℕ) → registers (rows_of table) shelf code ≡ Ok true → MayRegister table shelf code
may_register table shelf code is =
    let so = admitted_so (is_code code) (code == call_control_code) (is_answered (rows_of table) shelf) (is_registered (rows_of table) shelf code) is in
    (so.0, ⊎_elim {C = (code ≢ call_control_code) ⊎ NoOtherHasCallControl table shelf} (λ other. inl (not_call code other)) (λ answered. inr (alone (rows_of table) shelf answered)) so.1)
