-- The targets of rows some of which go or are registered no longer.
use Rattle.std.proofs.Common.{◌≡◌, refl, sym, ap, ◌∙◌, ℕ, Bool, true, false, ◌||◌, cond, List, [], ◌∷◌, map, filter, arith, subst, ◌≢◌, ◌==◌, not, All, AllPairs}
use Rattle.std.specs.List.{list_any}
use Rattle.std.proofs.lemmas.Bool.Decides.{nat_tests}
use Rattle.std.proofs.lemmas.List.Elements.{All-head, All-tail}
use Rattle.std.proofs.lemmas.Bool.{eqb-true, not_from_false, not_from_true, or_from, cond_both, not-true}
use Rattle.list_laws.proofs.AllPairsLemmas.{pairs_head, pairs_tail}
use Rattle.card_state.specs.Persistent.{Registration}
use Rattle.toolkit_model.specs.Order.{is_for, comes_before, row_placed, in_order, trigger_order, targets}
use Rattle.toolkit_model.specs.Registry.{is_on, without_row, without_code, with_kept}
use Rattle.toolkit_model.specs.Steps.{AreRows}
use Rattle.toolkit_model.proofs.TriggerOrderLemmas.{order_is_exact}
use Rattle.event_dispatch.specs.Indexes.{left_by}
use Rattle.event_dispatch.proofs.RowPlacedLemmas.{taken_first, taken_second, is_other, left_in_order}

abbrev pub shelf_of : Registration → ℕ
shelf_of row = row.shelf

-- ---- a shelf that stands at most once

pub all_others_stay : (s : ℕ) (rows : List Registration) → All (λ row. s ≢ row.shelf) rows → filter (is_other s) rows ≡ rows
all_others_stay s [] all = refl
all_others_stay s (row ∷ rows) all =
    taken_first (is_other s row) (row ∷ filter (is_other s) rows) (filter (is_other s) rows) (differ s row (All-head (λ row. s ≢ row.shelf) row rows all))
    ∙ ap (λ (ys : List Registration). row ∷ ys) (all_others_stay s rows (All-tail (λ row. s ≢ row.shelf) row rows all)) where
      differ : (s : ℕ) (row : Registration) → s ≢ row.shelf → is_other s row ≡ true
      differ s row far = grind (arith, nat_tests)

pub left_once : (s : ℕ) (rows : List Registration) → AllPairs (λ a b. a.shelf ≢ b.shelf) rows → map shelf_of (filter (is_other s) rows) ≡ left_by s (map shelf_of rows)
left_once s [] once = refl
left_once s (row ∷ rows) once =
    let beside : All (λ other. row.shelf ≢ other.shelf) rows = pairs_head (λ a b. a.shelf ≢ b.shelf) row rows once in
    cond_both (row.shelf == s) (map shelf_of rows) (row.shelf ∷ left_by s (map shelf_of rows)) (λ (left : List ℕ). map shelf_of (filter (is_other s) (row ∷ rows)) ≡ left)
    (λ h.
    ap (map shelf_of) (taken_second (is_other s row) (row ∷ filter (is_other s) rows) (filter (is_other s) rows) (not_from_true (row.shelf == s) h)
    ∙ all_others_stay s rows (subst (λ (n : ℕ). All (λ other. n ≢ other.shelf) rows) (eqb-true row.shelf s h) beside)))
    (λ h.
    ap (map shelf_of) (taken_first (is_other s row) (row ∷ filter (is_other s) rows) (filter (is_other s) rows) (not_from_false (row.shelf == s) h))
    ∙ ap (λ (ys : List ℕ). row.shelf ∷ ys) (left_once s rows (pairs_tail (λ a b. a.shelf ≢ b.shelf) row rows once)))

pub targets_left : (rows : List Registration) (s code : ℕ) → AreRows rows → targets (without_row rows s) code ≡ left_by s (targets rows code)
targets_left rows s code are = ap (map shelf_of) (left_in_order (is_other s) code rows are) ∙ left_once s (trigger_order rows code) (order_is_exact rows code are).once

-- ---- a row that is registered for a code no longer

abbrev cleared : ℕ → Registration → Registration
cleared code row = record row { codes = filter (λ other. not (other == code)) row.codes }

not_there : (code : ℕ) (codes : List ℕ) → list_any (λ other. other == code) (filter (λ other. not (other == code)) codes) ≡ false
not_there code [] = refl
not_there code (c ∷ codes) =
    cond_both (not (c == code)) (c ∷ filter (λ other. not (other == code)) codes) (filter (λ other. not (other == code)) codes) (λ (left : List ℕ). list_any (λ other. other == code) left ≡ false)
    (λ h. or_from (c == code) (list_any (λ other. other == code) (filter (λ other. not (other == code)) codes)) (not-true (c == code) h) (not_there code codes))
    (λ h. not_there code codes)

still_there : (code other c : ℕ) (codes : List ℕ) (any : Bool) → other ≢ code → list_any (λ x. x == other) codes ≡ any → not (c == code) ≡ false → any ≡ ((c == other) || any)
still_there code other c codes any far is gone = sym (plain (c == other) any (differ c code other far gone)) where
  plain : (a b : Bool) → a ≡ false → (a || b) ≡ b
  plain true b is = cc is
  plain false b is = refl

  differ : (c code other : ℕ) → other ≢ code → not (c == code) ≡ false → (c == other) ≡ false
  differ c code other far gone = grind (arith, nat_tests)

others_there : (code other : ℕ) (codes : List ℕ) → other ≢ code → list_any (λ x. x == other) (filter (λ x. not (x == code)) codes) ≡ list_any (λ x. x == other) codes
others_there code other [] far = refl
others_there code other (c ∷ codes) far =
    let rest = others_there code other codes far in
    cond_both (not (c == code)) (c ∷ filter (λ x. not (x == code)) codes) (filter (λ x. not (x == code)) codes) (λ (left : List ℕ). list_any (λ x. x == other) left ≡ list_any (λ x. x == other) (c ∷ codes))
    (λ h. ap (λ (b : Bool). (c == other) || b) rest)
    (λ h. rest ∙ still_there code other c codes (list_any (λ x. x == other) codes) far refl h)

cleared_as_gone : (code : ℕ) (row : Registration) (changed left : List Registration) → filter (is_for code) changed ≡ filter (is_for code) left → (b : Bool)
    → filter (is_for code) (cond b (cleared code row) row ∷ changed) ≡ filter (is_for code) (cond (not b) (row ∷ left) left)
cleared_as_gone code row changed left e true =
    taken_second (is_for code (cleared code row)) (cleared code row ∷ filter (is_for code) changed) (filter (is_for code) changed) (not_there code row.codes) ∙ e
cleared_as_gone code row changed left e false = ap (λ (rows : List Registration). cond (is_for code row) (row ∷ rows) rows) e

registered_less : (s code : ℕ) (rows : List Registration) → filter (is_for code) (without_code rows s code) ≡ filter (is_for code) (without_row rows s)
registered_less s code [] = refl
registered_less s code (row ∷ rows) = cleared_as_gone code row (without_code rows s code) (without_row rows s) (registered_less s code rows) (is_on s row)

pub targets_cleared : (rows : List Registration) (s code : ℕ) → AreRows rows → targets (without_code rows s code) code ≡ left_by s (targets rows code)
unfolding trigger_order
targets_cleared rows s code are = ap (λ (rows : List Registration). map shelf_of (in_order rows)) (registered_less s code rows) ∙ targets_left rows s code are

-- ---- rows that change in nothing that their order rests on

module _ (f : Registration → Registration) (code : ℕ) (same_order : (a b : Registration) → comes_before (f a) (f b) ≡ comes_before a b) (same_code : (row : Registration) → is_for code (f row) ≡ is_for code row) (same_shelf : (row : Registration) → (f row).shelf ≡ row.shelf) where
  place_kept : (row first : Registration) (others changed : List Registration) → map f (row_placed row others) ≡ changed → (b : Bool)
      → map f (cond b (row ∷ first ∷ others) (first ∷ row_placed row others)) ≡ cond b (f row ∷ f first ∷ map f others) (f first ∷ changed)
  place_kept row first others changed e true = refl
  place_kept row first others changed e false = ap (λ (rows : List Registration). f first ∷ rows) e

  placed_kept : (row : Registration) (rows : List Registration) → map f (row_placed row rows) ≡ row_placed (f row) (map f rows)
  placed_kept row [] = refl
  placed_kept row (first ∷ others) =
      place_kept row first others (row_placed (f row) (map f others)) (placed_kept row others) (comes_before row first)
      ∙ ap (λ (b : Bool). cond b (f row ∷ f first ∷ map f others) (f first ∷ row_placed (f row) (map f others))) (sym (same_order row first))

  order_kept : (rows : List Registration) → map f (in_order rows) ≡ in_order (map f rows)
  order_kept [] = refl
  order_kept (row ∷ others) = placed_kept row (in_order others) ∙ ap (row_placed (f row)) (order_kept others)

  one_kept : (row : Registration) (kept changed : List Registration) → map f kept ≡ changed → (b : Bool) → map f (cond b (row ∷ kept) kept) ≡ cond b (f row ∷ changed) changed
  one_kept row kept changed e true = ap (λ (rows : List Registration). f row ∷ rows) e
  one_kept row kept changed e false = e

  registered_kept : (rows : List Registration) → map f (filter (is_for code) rows) ≡ filter (is_for code) (map f rows)
  registered_kept [] = refl
  registered_kept (row ∷ rows) =
      one_kept row (filter (is_for code) rows) (filter (is_for code) (map f rows)) (registered_kept rows) (is_for code row)
      ∙ ap (λ (b : Bool). cond b (f row ∷ filter (is_for code) (map f rows)) (filter (is_for code) (map f rows))) (sym (same_code row))

  shelves_kept : (rows : List Registration) → map shelf_of (map f rows) ≡ map shelf_of rows
  shelves_kept [] = refl
  shelves_kept (row ∷ rows) = rw (same_shelf row, shelves_kept rows) refl

  pub targets_kept : (rows : List Registration) → targets (map f rows) code ≡ targets rows code
  unfolding trigger_order
  targets_kept rows =
      ap (λ (rows : List Registration). map shelf_of (in_order rows)) (sym (registered_kept rows)) ∙ ap (map shelf_of) (sym (order_kept (filter (is_for code) rows)))
      ∙ shelves_kept (in_order (filter (is_for code) rows))

-- the row of a shelf, with other codes
abbrev pub recoded : ℕ → (List ℕ → List ℕ) → Registration → Registration
recoded s g row = cond (is_on s row) (record row { codes = g row.codes }) row

pub same_order : (s : ℕ) (g : List ℕ → List ℕ) (a b : Registration) → (c d : Bool) → comes_before (cond c (record a { codes = g a.codes }) a) (cond d (record b { codes = g b.codes }) b) ≡ comes_before a b
same_order s g a b true true = refl
same_order s g a b true false = refl
same_order s g a b false true = refl
same_order s g a b false false = refl

pub same_shelf : (g : List ℕ → List ℕ) (a : Registration) (c : Bool) → (cond c (record a { codes = g a.codes }) a).shelf ≡ a.shelf
same_shelf g a true = refl
same_shelf g a false = refl

pub same_code : (g : List ℕ → List ℕ) (code : ℕ) (a : Registration) → is_for code (record a { codes = g a.codes }) ≡ is_for code a → (c : Bool) → is_for code (cond c (record a { codes = g a.codes }) a) ≡ is_for code a
same_code g code a e true = e
same_code g code a e false = refl

pub targets_of_others : (rows : List Registration) (s code other : ℕ) → other ≢ code → targets (without_code rows s code) other ≡ targets rows other
targets_of_others rows s code other far =
    let g : List ℕ → List ℕ = λ codes. filter (λ x. not (x == code)) codes in
    targets_kept (recoded s g) other (λ a b. same_order s g a b (is_on s a) (is_on s b)) (λ row. same_code g other row (others_there code other row.codes far) (is_on s row)) (λ row. same_shelf g row (is_on s row)) rows

-- ---- a row that keeps other bytes

same_order_keeping : (bytes : List ℕ) (a b : Registration) → (c d : Bool) → comes_before (cond c (record a { kept = bytes }) a) (cond d (record b { kept = bytes }) b) ≡ comes_before a b
same_order_keeping bytes a b true true = refl
same_order_keeping bytes a b true false = refl
same_order_keeping bytes a b false true = refl
same_order_keeping bytes a b false false = refl

same_code_keeping : (bytes : List ℕ) (code : ℕ) (a : Registration) → (c : Bool) → is_for code (cond c (record a { kept = bytes }) a) ≡ is_for code a
same_code_keeping bytes code a true = refl
same_code_keeping bytes code a false = refl

same_shelf_keeping : (bytes : List ℕ) (a : Registration) → (c : Bool) → (cond c (record a { kept = bytes }) a).shelf ≡ a.shelf
same_shelf_keeping bytes a true = refl
same_shelf_keeping bytes a false = refl

pub targets_of_kept : (rows : List Registration) (s : ℕ) (bytes : List ℕ) (code : ℕ) → targets (with_kept rows s bytes) code ≡ targets rows code
targets_of_kept rows s bytes code =
    targets_kept (λ row. cond (is_on s row) (record row { kept = bytes }) row) code (λ a b. same_order_keeping bytes a b (is_on s a) (is_on s b)) (λ row. same_code_keeping bytes code row (is_on s row)) (λ row. same_shelf_keeping bytes row (is_on s row)) rows
