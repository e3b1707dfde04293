-- A row that was installed among others goes again.
use Rattle.std.proofs.Common.{◌≡◌, refl, sym, ap, ◌∙◌, ℕ, ◌≤◌, ◌<◌, ⊎_elim, Bool, true, false, List, [], ◌∷◌, ◌++◌, filter, arith, ◌≢◌, ◌==◌, ◌&&◌, nat_lt, All, AllPairs}
use Rattle.std.specs.List.{list_any}
use Rattle.std.proofs.lemmas.Bool.{cases_lt, lt-ltb, le-ltb, or_parts, cases_eq}
use Rattle.std.proofs.lemmas.Bool.Decides.{nat_tests}
use Rattle.std.proofs.lemmas.List.Elements.{All-nil, All-head, All-tail, All-cons, All-weaker}
use Rattle.list_laws.proofs.AllPairsLemmas.{pairs_head, pairs_tail}
use Rattle.card_state.specs.Persistent.{Registration}
use Rattle.card_state.specs.Sections.{with_row, is_call_control}
use Rattle.toolkit_model.specs.Registry.{is_on, without_row}
use Rattle.toolkit_model.proofs.InstallationsAreAcceptedLemmas.{front, none_lower, all_upper, behind}
use Rattle.event_dispatch.specs.Changes.{InstallationsAreFollowed}
use Rattle.event_dispatch.proofs.RowPlacedLemmas.{taken_first, taken_second, is_other}
use Rattle.event_dispatch.proofs.WithoutCodeLemmas.{all_others_stay}

module _ (row : Registration) where
  abbrev lower : Registration → Bool
  lower other = nat_lt other.shelf row.shelf

  abbrev upper : Registration → Bool
  upper other = nat_lt row.shelf other.shelf

  abbrev AreAbove : List Registration → Type 0
  AreAbove rows = All (λ other. row.shelf < other.shelf) rows

  abbrev AreOthers : List Registration → Type 0
  AreOthers rows = All (λ other. row.shelf ≢ other.shelf) rows

  itself_goes : is_other row.shelf row ≡ false
  itself_goes = grind (arith, nat_tests)

  other_stays : (first : Registration) → first.shelf < row.shelf → is_other row.shelf first ≡ true
  other_stays first less = grind (arith, nat_tests)

  all_above : (first : Registration) (others : List Registration) → AllPairs (λ a b. a.shelf < b.shelf) (first ∷ others) → row.shelf ≤ first.shelf → row.shelf ≢ first.shelf → AreAbove (first ∷ others)
  all_above first others shelves high apart =
      let above : row.shelf < first.shelf = omega (arith, high, apart) in
      All-cons (λ other. row.shelf < other.shelf) first others above
      (All-weaker (λ other. first.shelf < other.shelf) (λ other. row.shelf < other.shelf) (λ other more. omega (arith, above, more)) others (pairs_head (λ a b. a.shelf < b.shelf) first others shelves))

  pub goes_again : (rows : List Registration) → AllPairs (λ a b. a.shelf < b.shelf) rows → AreOthers rows → without_row (with_row rows row) row.shelf ≡ rows
  goes_again [] shelves apart = taken_second (is_other row.shelf row) (row ∷ []) [] itself_goes
  goes_again (first ∷ others) shelves apart =
      ⊎_elim {C = without_row (with_row (first ∷ others) row) row.shelf ≡ first ∷ others}
      (λ less.
      ap (λ (rows : List Registration). without_row rows row.shelf) (front row first others less)
      ∙ taken_first (is_other row.shelf first) (first ∷ without_row (with_row others row) row.shelf) (without_row (with_row others row) row.shelf) (other_stays first less)
      ∙ ap (λ (rows : List Registration). first ∷ rows) (goes_again others (pairs_tail (λ a b. a.shelf < b.shelf) first others shelves) (All-tail (λ other. row.shelf ≢ other.shelf) first others apart)))
      (λ high.
      ap (λ (rows : List Registration). without_row rows row.shelf) (behind row (first ∷ others) (all_above first others shelves high (All-head (λ other. row.shelf ≢ other.shelf) first others apart)))
      ∙ taken_second (is_other row.shelf row) (row ∷ without_row (first ∷ others) row.shelf) (without_row (first ∷ others) row.shelf) itself_goes
      ∙ all_others_stay row.shelf (first ∷ others) apart)
      (cases_lt first.shelf row.shelf)

  others_of : (rows : List Registration) → AreAbove rows → AreOthers rows
  others_of rows above = All-weaker (λ other. row.shelf < other.shelf) (λ other. row.shelf ≢ other.shelf) (λ other more same. omega (arith, more, same)) rows above

  same_goes : (first : Registration) → row.shelf ≡ first.shelf → is_other row.shelf first ≡ false
  same_goes first same = grind (arith, nat_tests)

  at_it : (first : Registration) (others : List Registration) → AllPairs (λ a b. a.shelf < b.shelf) (first ∷ others) → row.shelf ≡ first.shelf
      → filter lower (first ∷ others) ++ filter upper (first ∷ others) ≡ without_row (first ∷ others) row.shelf
  at_it first others shelves same =
      let above : AreAbove others = All-weaker (λ other. first.shelf < other.shelf) (λ other. row.shelf < other.shelf) (λ other more. omega (arith, same, more)) others (pairs_head (λ a b. a.shelf < b.shelf) first others shelves) in
      ap (λ (low : List Registration). low ++ filter upper (first ∷ others)) (taken_second (lower first) (first ∷ filter lower others) (filter lower others) (le-ltb first.shelf row.shelf (omega (arith, same))) ∙ none_lower row others above)
      ∙ taken_second (upper first) (first ∷ filter upper others) (filter upper others) (le-ltb row.shelf first.shelf (omega (arith, same)))
      ∙ all_upper row others above
      ∙ sym (taken_second (is_other row.shelf first) (first ∷ without_row others row.shelf) (without_row others row.shelf) (same_goes first same) ∙ all_others_stay row.shelf others (others_of others above))

  pub parted : (rows : List Registration) → AllPairs (λ a b. a.shelf < b.shelf) rows → filter lower rows ++ filter upper rows ≡ without_row rows row.shelf
  parted [] shelves = refl
  parted (first ∷ others) shelves =
      ⊎_elim {C = filter lower (first ∷ others) ++ filter upper (first ∷ others) ≡ without_row (first ∷ others) row.shelf}
      (λ less.
      ap (λ (low : List Registration). low ++ filter upper (first ∷ others)) (taken_first (lower first) (first ∷ filter lower others) (filter lower others) (lt-ltb first.shelf row.shelf less))
      ∙ ap (λ (high : List Registration). (first ∷ filter lower others) ++ high) (taken_second (upper first) (first ∷ filter upper others) (filter upper others) (le-ltb row.shelf first.shelf (omega (arith, less))))
      ∙ ap (λ (rest : List Registration). first ∷ rest) (parted others (pairs_tail (λ a b. a.shelf < b.shelf) first others shelves))
      ∙ sym (taken_first (is_other row.shelf first) (first ∷ without_row others row.shelf) (without_row others row.shelf) (other_stays first less)))
      (λ high. ⊎_elim {C = filter lower (first ∷ others) ++ filter upper (first ∷ others) ≡ without_row (first ∷ others) row.shelf}
      (at_it first others shelves)
      (λ apart.
      let above = all_above first others shelves high apart in
      ap (λ (low : List Registration). low ++ filter upper (first ∷ others)) (none_lower row (first ∷ others) above) ∙ all_upper row (first ∷ others) above
      ∙ sym (all_others_stay row.shelf (first ∷ others) (others_of (first ∷ others) above)))
      (cases_eq row.shelf first.shelf))
      (cases_lt first.shelf row.shelf)

none_on : (s : ℕ) (rows : List Registration) → list_any (is_on s) rows ≡ false → All (λ other. s ≢ other.shelf) rows
none_on s [] none = All-nil (λ other. s ≢ other.shelf)
none_on s (first ∷ others) none =
    All-cons (λ other. s ≢ other.shelf) first others (apart s first.shelf (or_parts (is_on s first) (list_any (is_on s) others) none).0) (none_on s others (or_parts (is_on s first) (list_any (is_on s) others) none).1) where
      apart : (s n : ℕ) → (n == s) ≡ false → s ≢ n
      apart s n far = grind (arith, nat_tests)

pub installations_followed : InstallationsAreFollowed
installations_followed rows row are free =
    goes_again row rows are.shelves (none_on row.shelf rows (or_parts (list_any (is_on row.shelf) rows) (is_call_control row && list_any is_call_control rows) free).0)
