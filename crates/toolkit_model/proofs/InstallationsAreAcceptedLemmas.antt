-- A row among others that stand by their shelves.
use Rattle.std.proofs.Common.{◌≡◌, ℕ, ◌+◌, ◌≤◌, ◌<◌, Bool, true, false, cond, List, [], ◌∷◌, ◌++◌, length, Option, Some, None, Result, Ok, Err, arith, refl, sym, ◌∙◌, ap, subst, ⊎_elim, ◌≢◌, ◌==◌, not, ◌&&◌, nat_le, nat_lt, filter, All, AllPairs, count_by, is_some, option_map, option_and_then}
use Rattle.std.specs.List.{list_any, list_all}
use Rattle.std.proofs.lemmas.Bool.{cases_lt, lt-ltb, le-ltb, leb-true, leb-false, eqb-false, or_parts, and_parts}
use Rattle.std.proofs.lemmas.List.Sums.{sum_by-cons}
use Rattle.std.proofs.lemmas.List.Elements.{All-nil, All-cons, All-head, All-tail, All-weaker, All-push, All-append, All-filter}
use Rattle.list_laws.proofs.CondLemmas.{chosen}
use Rattle.list_laws.proofs.AllPairsLemmas.{pairs_nil, pairs_cons, pairs_head, pairs_tail}
use Rattle.card_state.specs.Persistent.{Registration, Persistent}
use Rattle.card_state.specs.Sections.{Installation, is_installation, is_code, are_different, counted, installation_of, has_text, new_row, needs_wide, with_row}
use Rattle.applet_trait.specs.Minds.{AppletState, kind_on}
use Rattle.toolkit_model.specs.declared.faults.RowFault.{RowFault}
use Rattle.toolkit_model.specs.declared.faults.RowFault.TheVariants.{BadData, NoBox, Narrow, Taken, MenuFull, Spent}
use Rattle.toolkit_model.specs.Registry.{faulty_if, unless_missing, is_on, is_taken, is_menu_full, last_sequence, installed_row}
use Rattle.toolkit_model.specs.Running.{mind_on}
use Rattle.toolkit_model.specs.Steps.{AreRows, HasMind}
use Rattle.toolkit_model.specs.Installing.{InstallationsAreAccepted}

-- ---- in its place

module _ (row : Registration) where
  abbrev pub lower : Registration → Bool
  lower other = nat_lt other.shelf row.shelf

  abbrev pub upper : Registration → Bool
  upper other = nat_lt row.shelf other.shelf

  pub front : (first : Registration) (others : List Registration) → first.shelf < row.shelf → with_row (first ∷ others) row ≡ first ∷ with_row others row
  front first others less =
      ap (λ t. (cond t (first ∷ filter lower others) (filter lower others) ++ row ∷ []) ++ filter upper (first ∷ others)) (lt-ltb first.shelf row.shelf less)
      ∙ ap (λ t. (first ∷ filter lower others ++ row ∷ []) ++ cond t (first ∷ filter upper others) (filter upper others)) (le-ltb row.shelf first.shelf (omega (arith, less)))

  abbrev pub AreAbove : List Registration → Type 0
  AreAbove rows = All (λ other. row.shelf < other.shelf) rows

  pub none_lower : (rows : List Registration) → AreAbove rows → filter lower rows ≡ []
  none_lower [] above = refl
  none_lower (first ∷ others) above =
      let less : row.shelf < first.shelf = All-head (λ other. row.shelf < other.shelf) first others above in
      ap (λ t. cond t (first ∷ filter lower others) (filter lower others)) (le-ltb first.shelf row.shelf (omega (arith, less))) ∙ none_lower others (All-tail (λ other. row.shelf < other.shelf) first others above)

  pub all_upper : (rows : List Registration) → AreAbove rows → filter upper rows ≡ rows
  all_upper [] above = refl
  all_upper (first ∷ others) above =
      ap (λ t. cond t (first ∷ filter upper others) (filter upper others)) (lt-ltb row.shelf first.shelf (All-head (λ other. row.shelf < other.shelf) first others above))
      ∙ ap (λ (rest : List Registration). first ∷ rest) (all_upper others (All-tail (λ other. row.shelf < other.shelf) first others above))

  pub behind : (rows : List Registration) → AreAbove rows → with_row rows row ≡ row ∷ rows
  behind rows above = λ i. (none_lower rows above i ++ row ∷ []) ++ all_upper rows above i

  pub with_all : (P : Registration → Type 0) (rows : List Registration) → P row → All P rows → All P (with_row rows row)
  with_all P rows here all = All-append P (filter lower rows ++ row ∷ []) (filter upper rows) (All-push P (filter lower rows) row (All-filter lower P rows all) here) (All-filter upper P rows all)

  abbrev AreOthers : List Registration → Type 0
  AreOthers rows = All (λ other. other.shelf ≢ row.shelf) rows

  -- rows by their shelves, of which the first isn't below: all are above
  are_above : (first : Registration) (others : List Registration) → AllPairs (λ a b. a.shelf < b.shelf) (first ∷ others) → AreOthers (first ∷ others) → row.shelf ≤ first.shelf → AreAbove (first ∷ others)
  are_above first others shelves free high =
      let apart = All-head (λ other. other.shelf ≢ row.shelf) first others free in
      let less : row.shelf < first.shelf = omega (arith, apart, high) in
      All-cons (λ other. row.shelf < other.shelf) first others less
      (All-weaker (λ other. first.shelf < other.shelf) (λ other. row.shelf < other.shelf) (λ other more. omega (arith, less, more)) others (pairs_head (λ a b. a.shelf < b.shelf) first others shelves))

  pub with_pairs : (R : Registration → Registration → Type 0) (rows : List Registration) → AllPairs (λ a b. a.shelf < b.shelf) rows → AreOthers rows
      → All (λ other. other.shelf < row.shelf → R other row) rows → All (λ other. row.shelf < other.shelf → R row other) rows → AllPairs R rows → AllPairs R (with_row rows row)
  with_pairs R [] shelves free below above pairs = pairs_cons R row [] (All-nil (R row)) (pairs_nil R)
  with_pairs R (first ∷ others) shelves free below above pairs =
      ⊎_elim {C = AllPairs R (with_row (first ∷ others) row)}
      (λ less.
      subst (AllPairs R) (sym (front first others less))
      (pairs_cons R first (with_row others row)
      (with_all (R first) others (All-head (λ other. other.shelf < row.shelf → R other row) first others below less) (pairs_head R first others pairs))
      (with_pairs R others (pairs_tail (λ a b. a.shelf < b.shelf) first others shelves) (All-tail (λ other. other.shelf ≢ row.shelf) first others free)
      (All-tail (λ other. other.shelf < row.shelf → R other row) first others below) (All-tail (λ other. row.shelf < other.shelf → R row other) first others above) (pairs_tail R first others pairs))))
      (λ high.
      let all_above = are_above first others shelves free high in
      subst (AllPairs R) (sym (behind (first ∷ others) all_above)) (pairs_cons R row (first ∷ others) (λ k d low. above k d low (all_above k d low)) pairs))
      (cases_lt first.shelf row.shelf)

  abbrev weight : Registration → ℕ
  weight other = cond (has_text other) 1 0

  texts_with : (rows : List Registration) → AllPairs (λ a b. a.shelf < b.shelf) rows → AreOthers rows → count_by has_text (with_row rows row) ≡ weight row + count_by has_text rows
  texts_with [] shelves free = sum_by-cons weight row []
  texts_with (first ∷ others) shelves free =
      ⊎_elim {C = count_by has_text (with_row (first ∷ others) row) ≡ weight row + count_by has_text (first ∷ others)}
      (λ less.
      let rest = texts_with others (pairs_tail (λ a b. a.shelf < b.shelf) first others shelves) (All-tail (λ other. other.shelf ≢ row.shelf) first others free) in
      let one : count_by has_text (first ∷ with_row others row) ≡ weight first + count_by has_text (with_row others row) = sum_by-cons weight first (with_row others row) in
      let other : count_by has_text (first ∷ others) ≡ weight first + count_by has_text others = sum_by-cons weight first others in
      ap (count_by has_text) (front first others less) ∙ omega (arith, one, other, rest))
      (λ high. ap (count_by has_text) (behind (first ∷ others) (are_above first others shelves free high)) ∙ sum_by-cons weight row (first ∷ others))
      (cases_lt first.shelf row.shelf)

-- ---- what isn't refused

pub unless_passed : {A : Type 0} (bad : Bool) (fault : RowFault) (next : Result A RowFault) (x : A) → faulty_if bad fault next ≡ Ok x → (bad ≡ false) × (next ≡ Ok x)
unless_passed true fault next x is = cc
unless_passed false fault next x is = (refl, is)

pub given_passed : {A B : Type 0} (found : Option A) (fault : RowFault) (next : A → Result B RowFault) (y : B) → unless_missing found fault next ≡ Ok y → (x : A) × (found ≡ Some x) × (next x ≡ Ok y)
given_passed None fault next y is = cc
given_passed (Some x) fault next y is = (x, refl, is)

pub then_passed : {A B : Type 0} (found : Option A) (next : A → Option B) (y : B) → option_and_then next found ≡ Some y → (x : A) × (next x ≡ Some y)
then_passed None next y is = cc
then_passed (Some x) next y is = (x, is)

abbrev pub value_of : {A : Type 0} → A → Result A RowFault → A
value_of other (Ok x) = x
value_of other (Err fault) = other

abbrev pub other_of : {A : Type 0} → A → Option A → A
other_of other (Some x) = x
other_of other None = other

pub free_all : (shelf : ℕ) (rows : List Registration) → list_any (is_on shelf) rows ≡ false → All (λ other. other.shelf ≢ shelf) rows
free_all shelf [] free = All-nil (λ other. other.shelf ≢ shelf)
free_all shelf (first ∷ others) free =
    let two = or_parts (first.shelf == shelf) (list_any (is_on shelf) others) free in
    All-cons (λ other. other.shelf ≢ shelf) first others (eqb-false first.shelf shelf two.0) (free_all shelf others two.1)

has_room : (b : Bool) (count : ℕ) → count ≤ 16 → (b && nat_le 16 count) ≡ false → cond b 1 0 + count ≤ 16
has_room true count few is = omega (arith, leb-false 16 count is)
has_room false count few is = omega (arith, few)

pub none_read : (found : Installation) (P : Type 0) → (let none : Option Installation = None in none) ≡ Some found → P
none_read found P is = cc

-- the text that was read is short
short_text : (content : List ℕ) (found : Installation) → installation_of content ≡ Some found → length found.text ≤ 10
short_text content found is =
    let codes = then_passed (counted content) _ found is in
    let text = then_passed (counted codes.0.1) _ found codes.1 in
    let read : Installation = record { codes = codes.0.0; text = text.0.0; kept = text.0.1 } in
    ⊎_elim {C = length found.text ≤ 10}
    (λ passed.
    let first = and_parts (list_all is_code read.codes && are_different read.codes && nat_le (length read.text) 10) (nat_le (length read.kept) 64) passed.0 in
    let second = and_parts (list_all is_code read.codes && are_different read.codes) (nat_le (length read.text) 10) first.0 in
    subst (λ (each : Installation). length each.text ≤ 10) (ap (other_of read) passed.1) (leb-true (length read.text) 10 second.1))
    (λ failed. none_read found (length found.text ≤ 10) failed.1)
    (chosen (is_installation read) (Some read) None (Some found) text.1)

-- the row that INSTALL answers
record IsAnswered (card : Persistent) (kind : Option ℕ) (shelf : ℕ) (row : Registration) : Type 0 where
  there : is_some kind ≡ true
  shelf_is : row.shelf ≡ shelf
  sequence : row.sequence ≡ card.next_sequence
  text : length row.text ≤ 10
  free : is_taken card.rows row ≡ false
  room : is_menu_full card.rows row ≡ false

module _ (card : Persistent) where
  abbrev pub if_left : Registration → Result Registration RowFault
  if_left row = faulty_if (card.next_sequence == last_sequence) Spent (Ok row)

  abbrev pub if_roomy : Registration → Result Registration RowFault
  if_roomy row = faulty_if (is_menu_full card.rows row) MenuFull (if_left row)

  abbrev pub if_free : Registration → Result Registration RowFault
  if_free row = faulty_if (is_taken card.rows row) Taken (if_roomy row)

  abbrev pub if_wide : Registration → Result Registration RowFault
  if_wide row = faulty_if (needs_wide row && not card.is_wide) Narrow (if_free row)

  abbrev pub if_there : Option ℕ → ℕ → ℕ → Installation → Result Registration RowFault
  if_there kind shelf priority found = unless_missing kind NoBox (λ known. if_wide (new_row card shelf priority known found))

  row_answered : (kind : Option ℕ) (shelf priority : ℕ) (content : List ℕ) (row : Registration) → installed_row card kind shelf priority content ≡ Ok row → IsAnswered card kind shelf row
  row_answered kind shelf priority content row is =
      let found = given_passed (installation_of content) BadData (if_there kind shelf priority) row is in
      let known = given_passed kind NoBox (λ known. if_wide (new_row card shelf priority known found.0)) row found.2 in
      let new : Registration = new_row card shelf priority known.0 found.0 in
      let wide = unless_passed (needs_wide new && not card.is_wide) Narrow (if_free new) row known.2 in
      let free = unless_passed (is_taken card.rows new) Taken (if_roomy new) row wide.1 in
      let room = unless_passed (is_menu_full card.rows new) MenuFull (if_left new) row free.1 in
      let left = unless_passed (card.next_sequence == last_sequence) Spent (Ok new) row room.1 in
      let same : new ≡ row = ap (value_of new) left.1 in
      subst (IsAnswered card kind shelf) same (record {
        there = ap is_some known.1;
        shelf_is = refl;
        sequence = refl;
        text = short_text content found.0 found.1;
        free = free.0;
        room = room.0;
      })

some_mapped : {A B : Type 0} (f : A → B) (found : Option A) → is_some (option_map f found) ≡ true → is_some found ≡ true
some_mapped f None is = cc
some_mapped f (Some x) is = refl

rows_with : (rows : List Registration) (next : ℕ) (row : Registration) → AreRows rows → All (λ other. other.sequence < next) rows → row.sequence ≡ next → length row.text ≤ 10
    → is_taken rows row ≡ false → is_menu_full rows row ≡ false → AreRows (with_row rows row)
rows_with rows next row are low sequence text taken full =
    let free = free_all row.shelf rows (or_parts (list_any (is_on row.shelf) rows) _ taken).0 in
    record {
      shelves = with_pairs row (λ a b. a.shelf < b.shelf) rows are.shelves free (λ k d below less. less) (λ k d below more. more) are.shelves;
      sequences = with_pairs row (λ a b. a.sequence ≢ b.sequence) rows are.shelves free
          (All-weaker (λ other. other.sequence < next) (λ other. other.shelf < row.shelf → other.sequence ≢ row.sequence) (λ other less below same. omega (arith, less, sequence, same)) rows low)
          (All-weaker (λ other. other.sequence < next) (λ other. row.shelf < other.shelf → row.sequence ≢ other.sequence) (λ other less below same. omega (arith, less, sequence, same)) rows low) are.sequences;
      texts = with_all row (λ other. length other.text ≤ 10) rows text are.texts;
      few_texts = omega (arith, texts_with row rows are.shelves free, has_room (has_text row) (count_by has_text rows) are.few_texts full);
    }

pub installations_accepted : InstallationsAreAccepted
installations_accepted card state shelf priority content row same are low is =
    let answered = row_answered card (kind_on state.minds shelf) shelf priority content row is in
    let free : is_taken state.rows row ≡ false = ap (λ (rows : List Registration). is_taken rows row) (sym same) ∙ answered.free in
    let room : is_menu_full state.rows row ≡ false = ap (λ (rows : List Registration). is_menu_full rows row) (sym same) ∙ answered.room in (
      rows_with state.rows card.next_sequence row are low answered.sequence answered.text free room,
      subst (HasMind state.minds) (sym answered.shelf_is) (some_mapped (λ (mind : AppletState). mind.kind) (mind_on state.minds shelf) answered.there),
      free,
    )
