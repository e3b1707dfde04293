-- Each commit of the toolkit changes the rows as its change says.
use Rattle.std.proofs.Common.{◌≡◌, ◌≢◌, refl, sym, ap, ◌∙◌, subst, ℕ, ◌+◌, ◌<◌, Bool, true, false, not, nat_lt, cond, filter, List, [], ◌∷◌, ◌++◌, map, Option, Some, All, AllPairs, arith, eqb-true, ne_eqb, append-nil}
use Rattle.std.specs.Option.{option_map_or}
use Rattle.std.proofs.lemmas.Bool.Decides.{nat_tests}
use Rattle.std.proofs.lemmas.List.Elements.{All-head, All-tail, All-weaker}
use Rattle.list_laws.proofs.ContainsLemmas.{front_of, back_of}
use Rattle.list_laws.proofs.AllPairsLemmas.{pairs_head, pairs_tail, pairs_map, pairs_unmap}
use Rattle.card_state.specs.Changes.{Change, AddRow, TakeRow, PutEvents, PutKept, changed, states_after}
use Rattle.card_state.specs.Changing.{with_row_changed}
use Rattle.card_state.specs.Kinds.{codes_of}
use Rattle.card_state.specs.Persistent.{Registration, Persistent}
use Rattle.card_state.specs.Sections.{with_row}
use Rattle.card_state.specs.Soundness.{AreEventCodes}
use Rattle.card_state.proofs.AreEventCodesLemmas.{codes_known}
use Rattle.toolkit_model.specs.Passing.{Happening, Woke, Fetched, Responded, Given, Turned, Committed, passed_rows, changes_in}
use Rattle.toolkit_model.specs.Registry.{is_on, row_on, with_changed, with_kept, without_row}
use Rattle.toolkit_model.specs.Changes.{events_of, entry_of, codes_on}
use Rattle.card_model.specs.Toolkit.{with_rows}
use Rattle.card_laws.proofs.EventCodesLemmas.{codes_again}

-- one row on a shelf at most, each with codes of events
pub record AreFit (rows : List Registration) : Type 0 where
  pub shelves : AllPairs (λ a b. a.shelf ≢ b.shelf) rows
  pub codes : All (λ row. AreEventCodes row.codes) rows

-- of a card with these rows, the change makes one with the next ones
abbrev pub Makes : List Registration → Change → List Registration → Type 0
Makes rows change next = (card : Persistent) → card.rows ≡ rows → AreFit next → changed card change ≡ record card { rows = next }

-- so it is of each commit that is noted, from the first rows to the last
abbrev pub AreRight : List Registration → List Happening → List Registration → Type 0
AreRight rows [] now = rows ≡ now
AreRight rows (Committed change next ∷ log) now = Makes rows change next × AreRight next log now
AreRight rows (Woke ∷ log) now = AreRight rows log now
AreRight rows (Fetched out ∷ log) now = AreRight rows log now
AreRight rows (Responded out reply ∷ log) now = AreRight rows log now
AreRight rows (Given trigger ∷ log) now = AreRight rows log now
AreRight rows (Turned turn ∷ log) now = AreRight rows log now

pub right_joined : (rows middle now : List Registration) (first second : List Happening) → AreRight rows first middle → AreRight middle second now → AreRight rows (first ++ second) now
right_joined rows middle now [] second same right = subst (λ (r : List Registration). AreRight r second now) (sym same) right
right_joined rows middle now (Committed change next ∷ first) second one right = (one.0, right_joined next middle now first second one.1 right)
right_joined rows middle now (Woke ∷ first) second one right = right_joined rows middle now first second one right
right_joined rows middle now (Fetched out ∷ first) second one right = right_joined rows middle now first second one right
right_joined rows middle now (Responded out reply ∷ first) second one right = right_joined rows middle now first second one right
right_joined rows middle now (Given trigger ∷ first) second one right = right_joined rows middle now first second one right
right_joined rows middle now (Turned turn ∷ first) second one right = right_joined rows middle now first second one right

-- ---- one act

pub keep_makes : (rows : List Registration) (shelf : ℕ) (bytes : List ℕ) → Makes rows (PutKept shelf bytes) (with_kept rows shelf bytes)
unfolding changed with_row_changed
keep_makes rows shelf bytes card same fit = ap (λ (r : List Registration). record card { rows = with_kept r shelf bytes }) same

module _ (shelf : ℕ) (change : List ℕ → List ℕ) where
  abbrev moved : Registration → Registration
  moved row = record row { codes = change row.codes }

  abbrev set : List ℕ → Registration → Registration
  set codes row = record row { codes = codes }

  abbrev codes_in : Option Registration → List ℕ
  codes_in found = option_map_or (λ row. row.codes) found []

  -- rows that are on other shelves
  untouched : (change : Registration → Registration) (rows : List Registration) → All (λ row. shelf ≢ row.shelf) rows → with_changed rows shelf change ≡ rows
  untouched change [] others = refl
  untouched change (row ∷ rows) others =
      let apart : row.shelf ≢ shelf = λ is. All-head (λ row. shelf ≢ row.shelf) row rows others (sym is) in
      ap (λ (b : Bool). cond b (change row) row ∷ with_changed rows shelf change) (ne_eqb row.shelf shelf apart)
      ∙ ap (λ (rest : List Registration). row ∷ rest) (untouched change rows (All-tail (λ row. shelf ≢ row.shelf) row rows others))

  -- with the codes that the changed row has
  codes_set : (rows : List Registration) (codes : List ℕ) → AllPairs (λ a b. a.shelf ≢ b.shelf) rows → codes_on (with_changed rows shelf moved) shelf ≡ codes → with_changed rows shelf (set codes) ≡ with_changed rows shelf moved
  codes_set [] codes apart is = refl
  codes_set (row ∷ rows) codes apart is = by_first (is_on shelf row) refl is (codes_set rows codes (pairs_tail (λ (a b : Registration). a.shelf ≢ b.shelf) row rows apart))
    where
      by_first : (b : Bool) → is_on shelf row ≡ b → codes_in (row_on (cond b (moved row) row ∷ with_changed rows shelf moved) shelf) ≡ codes
          → (codes_on (with_changed rows shelf moved) shelf ≡ codes → with_changed rows shelf (set codes) ≡ with_changed rows shelf moved) → cond b (set codes row) row ∷ with_changed rows shelf (set codes) ≡ cond b (moved row) row ∷ with_changed rows shelf moved
      by_first true here found rest =
          let codes_are : change row.codes ≡ codes = sym (ap (λ (b : Bool). codes_in (cond b (Some (moved row)) (row_on (with_changed rows shelf moved) shelf))) here) ∙ found in
          let others : All (λ other. shelf ≢ other.shelf) rows =
          subst (λ (n : ℕ). All (λ (other : Registration). n ≢ other.shelf) rows) (eqb-true row.shelf shelf here) (pairs_head (λ (a b : Registration). a.shelf ≢ b.shelf) row rows apart) in
          ap (λ (these : List ℕ). record row { codes = these } ∷ with_changed rows shelf (set codes)) (sym codes_are)
          ∙ ap (λ (rest : List Registration). moved row ∷ rest) (untouched (set codes) rows others ∙ sym (untouched moved rows others))
      by_first false here found rest =
          let later : codes_on (with_changed rows shelf moved) shelf ≡ codes = sym (ap (λ (b : Bool). codes_in (cond b (Some row) (row_on (with_changed rows shelf moved) shelf))) here) ∙ found in
          ap (λ (others : List Registration). row ∷ others) (rest later)

-- the shelves stay
same_shelves : (shelf : ℕ) (change : Registration → Registration) → ((row : Registration) → (change row).shelf ≡ row.shelf) → (rows : List Registration) → map (λ (row : Registration). row.shelf) (with_changed rows shelf change) ≡ map (λ (row : Registration). row.shelf) rows
same_shelves shelf change same [] = refl
same_shelves shelf change same (row ∷ rows) = by_first (is_on shelf row) (same_shelves shelf change same rows)
  where
    by_first : (b : Bool) → map (λ (r : Registration). r.shelf) (with_changed rows shelf change) ≡ map (λ (r : Registration). r.shelf) rows
        → (cond b (change row) row).shelf ∷ map (λ (r : Registration). r.shelf) (with_changed rows shelf change) ≡ row.shelf ∷ map (λ (r : Registration). r.shelf) rows
    by_first true later = ap (λ (first : ℕ). first ∷ map (λ (r : Registration). r.shelf) (with_changed rows shelf change)) (same row) ∙ ap (λ (rest : List ℕ). row.shelf ∷ rest) later
    by_first false later = ap (λ (rest : List ℕ). row.shelf ∷ rest) later

apart_before : (shelf : ℕ) (change : Registration → Registration) → ((row : Registration) → (change row).shelf ≡ row.shelf) → (rows : List Registration) → AllPairs (λ a b. a.shelf ≢ b.shelf) (with_changed rows shelf change) → AllPairs (λ a b. a.shelf ≢ b.shelf) rows
apart_before shelf change same rows apart =
    pairs_unmap (λ (a b : ℕ). a ≢ b) (λ (row : Registration). row.shelf) rows
    (subst (AllPairs (λ (a b : ℕ). a ≢ b)) (same_shelves shelf change same rows) (pairs_map (λ (a b : ℕ). a ≢ b) (λ (row : Registration). row.shelf) (with_changed rows shelf change) apart))

-- the codes of a row that is there are codes of events
fit_codes : (rows : List Registration) (shelf : ℕ) → All (λ row. AreEventCodes row.codes) rows → codes_of (events_of (codes_on rows shelf)) ≡ codes_on rows shelf
fit_codes [] shelf all = codes_again [] (codes_known 0)
fit_codes (row ∷ rows) shelf all = by_first (is_on shelf row) (fit_codes rows shelf (All-tail (λ (r : Registration). AreEventCodes r.codes) row rows all))
  where
    by_first : (b : Bool) → codes_of (events_of (codes_on rows shelf)) ≡ codes_on rows shelf → codes_of (events_of (option_map_or (λ (r : Registration). r.codes) (cond b (Some row) (row_on rows shelf)) [])) ≡ option_map_or (λ (r : Registration). r.codes) (cond b (Some row) (row_on rows shelf)) []
    by_first true later = codes_again row.codes (All-head (λ (r : Registration). AreEventCodes r.codes) row rows all)
    by_first false later = later

pub codes_make : (rows : List Registration) (shelf : ℕ) (change : List ℕ → List ℕ)
    → let next = with_changed rows shelf (λ row. record row { codes = change row.codes }) in Makes rows (PutEvents shelf (events_of (codes_on next shelf))) next
unfolding changed with_row_changed
codes_make rows shelf change card same fit =
    let next : List Registration = with_changed rows shelf (λ row. record row { codes = change row.codes }) in
    ap (λ (r : List Registration). record card { rows = with_changed r shelf (λ row. record row { codes = codes_of (events_of (codes_on next shelf)) }) }) same
    ∙ ap (λ (r : List Registration). record card { rows = r })
    (codes_set shelf change rows (codes_of (events_of (codes_on next shelf))) (apart_before shelf (λ row. record row { codes = change row.codes }) (λ row. refl) rows fit.shelves) (sym (fit_codes next shelf fit.codes)))

-- ---- a log

-- of a card that holds this, the states with the rows that are noted are those after the changes that are
pub right_passes : (rows : List Registration) (log : List Happening) (now : List Registration) (card : Persistent) → card.rows ≡ rows → AreRight rows log now → All AreFit (passed_rows log)
    → map (with_rows card card.next_sequence) (passed_rows log) ≡ states_after card (changes_in log)
unfolding states_after
right_passes rows [] now card same right fit = refl
right_passes rows (Committed change next ∷ log) now card same right fit =
    let here : changed card change ≡ record card { rows = next } = right.0 card same (All-head AreFit next (passed_rows log) fit) in
    ap (λ (states : List Persistent). with_rows card card.next_sequence next ∷ states) (right_passes next log now (record card { rows = next }) refl right.1 (All-tail AreFit next (passed_rows log) fit))
    ∙ ap (λ (state : Persistent). state ∷ states_after state (changes_in log)) (sym here)
right_passes rows (Woke ∷ log) now card same right fit = right_passes rows log now card same right fit
right_passes rows (Fetched out ∷ log) now card same right fit = right_passes rows log now card same right fit
right_passes rows (Responded out reply ∷ log) now card same right fit = right_passes rows log now card same right fit
right_passes rows (Given trigger ∷ log) now card same right fit = right_passes rows log now card same right fit
right_passes rows (Turned turn ∷ log) now card same right fit = right_passes rows log now card same right fit

-- ---- a row that comes, and one that goes

pub with_fit : (rows : List Registration) (row : Registration) → AreFit (with_row rows row) → AreEventCodes row.codes
with_fit rows row fit =
    let is_fit : Registration → Type 0 = λ r. AreEventCodes r.codes in
    let lower : List Registration = filter (λ other. nat_lt other.shelf row.shelf) rows in
    All-head is_fit row [] (back_of is_fit lower (row ∷ []) (front_of is_fit (lower ++ row ∷ []) (filter (λ other. nat_lt row.shelf other.shelf) rows) fit.codes))

pub add_makes : (card : Persistent) (row : Registration) → AreEventCodes row.codes → changed card (AddRow row.shelf (entry_of row)) ≡ with_rows card (card.next_sequence + 1) (with_row card.rows row)
unfolding changed
add_makes card row codes = ap (λ (these : List ℕ). with_rows card (card.next_sequence + 1) (with_row card.rows (record row { codes = these }))) (codes_again row.codes codes)

all_stay : (p : Registration → Bool) (rows : List Registration) → All (λ row. p row ≡ true) rows → filter p rows ≡ rows
all_stay p [] all = refl
all_stay p (row ∷ rows) all =
    ap (λ (b : Bool). cond b (row ∷ filter p rows) (filter p rows)) (All-head (λ r. p r ≡ true) row rows all) ∙ ap (λ (rest : List Registration). row ∷ rest) (all_stay p rows (All-tail (λ r. p r ≡ true) row rows all))

none_stays : (p : Registration → Bool) (rows : List Registration) → All (λ row. p row ≡ false) rows → filter p rows ≡ []
none_stays p [] all = refl
none_stays p (row ∷ rows) all =
    ap (λ (b : Bool). cond b (row ∷ filter p rows) (filter p rows)) (All-head (λ r. p r ≡ false) row rows all) ∙ none_stays p rows (All-tail (λ r. p r ≡ false) row rows all)

module _ (shelf : ℕ) where
  abbrev lower : List Registration → List Registration
  lower rows = filter (λ r. nat_lt r.shelf shelf) rows

  abbrev upper : List Registration → List Registration
  upper rows = filter (λ r. nat_lt shelf r.shelf) rows

  not_lower : (row : Registration) → shelf < row.shelf → nat_lt row.shelf shelf ≡ false
  not_lower row above = grind (arith, nat_tests, above)

  is_upper : (row : Registration) → shelf < row.shelf → nat_lt shelf row.shelf ≡ true
  is_upper row above = grind (arith, nat_tests, above)

  is_off : (row : Registration) → shelf < row.shelf → not (is_on shelf row) ≡ true
  is_off row above = grind (arith, nat_tests, above)

  abbrev others : List Registration → List Registration
  others rows = without_row rows shelf

  -- below the shelf, on it, or above it
  first_part : (row : Registration) (rows : List Registration) → All (λ other. row.shelf < other.shelf) rows → lower rows ++ upper rows ≡ others rows → (less : Bool) → nat_lt row.shelf shelf ≡ less → (on : Bool) → is_on shelf row ≡ on
      → lower (row ∷ rows) ++ upper (row ∷ rows) ≡ others (row ∷ rows)
  first_part row rows after rest true is_less on is_on_it =
      let here : row.shelf < shelf = grind (arith, nat_tests, is_less) in
      let not_upper : nat_lt shelf row.shelf ≡ false = grind (arith, nat_tests, here) in
      let off : not (is_on shelf row) ≡ true = grind (arith, nat_tests, here) in
      ap (λ (b : Bool). cond b (row ∷ lower rows) (lower rows) ++ cond (nat_lt shelf row.shelf) (row ∷ upper rows) (upper rows)) is_less
      ∙ ap (λ (b : Bool). row ∷ lower rows ++ cond b (row ∷ upper rows) (upper rows)) not_upper
      ∙ ap (λ (all : List Registration). row ∷ all) rest ∙ sym (ap (λ (b : Bool). cond b (row ∷ others rows) (others rows)) off)
  first_part row rows after rest false is_less true is_on_it =
      let same : row.shelf ≡ shelf = eqb-true row.shelf shelf is_on_it in
      let not_upper : nat_lt shelf row.shelf ≡ false = grind (arith, nat_tests, same) in
      ap (λ (b : Bool). cond b (row ∷ lower rows) (lower rows) ++ cond (nat_lt shelf row.shelf) (row ∷ upper rows) (upper rows)) is_less
      ∙ ap (λ (b : Bool). lower rows ++ cond b (row ∷ upper rows) (upper rows)) not_upper
      ∙ rest ∙ sym (ap (λ (b : Bool). cond (not b) (row ∷ others rows) (others rows)) is_on_it)
  first_part row rows after rest false is_less false is_on_it =
      let higher : shelf < row.shelf = grind (arith, nat_tests, is_less, is_on_it) in
      let above : All (λ (other : Registration). shelf < other.shelf) rows = All-weaker (λ (other : Registration). row.shelf < other.shelf) (λ other. shelf < other.shelf) (λ other more. omega (arith, higher, more)) rows after in
      let none : lower rows ≡ [] = none_stays (λ r. nat_lt r.shelf shelf) rows (All-weaker (λ (other : Registration). shelf < other.shelf) (λ other. nat_lt other.shelf shelf ≡ false) not_lower rows above) in
      let all : upper rows ≡ others rows =
      all_stay (λ r. nat_lt shelf r.shelf) rows (All-weaker (λ (other : Registration). shelf < other.shelf) (λ other. nat_lt shelf other.shelf ≡ true) is_upper rows above)
      ∙ sym (all_stay (λ r. not (is_on shelf r)) rows (All-weaker (λ (other : Registration). shelf < other.shelf) (λ other. not (is_on shelf other) ≡ true) is_off rows above)) in
      ap (λ (b : Bool). cond b (row ∷ lower rows) (lower rows) ++ cond (nat_lt shelf row.shelf) (row ∷ upper rows) (upper rows)) is_less
      ∙ ap (λ (b : Bool). lower rows ++ cond b (row ∷ upper rows) (upper rows)) (is_upper row higher)
      ∙ ap (λ (first : List Registration). first ++ row ∷ upper rows) none ∙ ap (λ (rest : List Registration). row ∷ rest) all
      ∙ sym (ap (λ (b : Bool). cond b (row ∷ others rows) (others rows)) (is_off row higher))

  parts_are : (rows : List Registration) → AllPairs (λ a b. a.shelf < b.shelf) rows → lower rows ++ upper rows ≡ others rows
  parts_are [] ascend = refl
  parts_are (row ∷ rows) ascend = first_part row rows (pairs_head (λ (a b : Registration). a.shelf < b.shelf) row rows ascend) (parts_are rows (pairs_tail (λ (a b : Registration). a.shelf < b.shelf) row rows ascend)) (nat_lt row.shelf shelf) refl (is_on shelf row) refl

pub take_makes : (card : Persistent) (shelf : ℕ) → AllPairs (λ a b. a.shelf < b.shelf) card.rows → changed card (TakeRow shelf) ≡ with_rows card card.next_sequence (without_row card.rows shelf)
unfolding changed
take_makes card shelf ascend =
    ap (λ (first : List Registration). with_rows card card.next_sequence (first ++ upper shelf card.rows)) (append-nil (lower shelf card.rows))
    ∙ ap (λ (rows : List Registration). with_rows card card.next_sequence rows) (parts_are shelf card.rows ascend)
