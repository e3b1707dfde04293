-- A row that is registered for one more code.
use Rattle.std.proofs.Common.{◌≡◌, refl, sym, ap, ◌∙◌, ℕ, ⊎_elim, Bool, true, false, ◌||◌, cond, List, [], ◌∷◌, map, filter, arith, subst, Option, Some, None, ◌≢◌, ◌==◌, ◌&&◌, not, All, AllPairs, Contains, find, eqb-true}
use Rattle.std.specs.Option.{option_map_or, option_map}
use Rattle.std.specs.List.{list_any}
use Rattle.std.proofs.lemmas.Bool.Decides.{nat_tests}
use Rattle.std.proofs.lemmas.List.Elements.{Contains-append_cases}
use Rattle.list_laws.proofs.AllPairsLemmas.{pairs_head, pairs_tail}
use Rattle.list_laws.proofs.ContainsLemmas.{only_there}
use Rattle.card_state.specs.Persistent.{Registration}
use Rattle.card_state.specs.Kinds.{event_codes}
use Rattle.card_state.specs.Events.{bit_of}
use Rattle.card_state.specs.Sections.{is_code, sorted_codes}
use Rattle.toolkit_model.specs.Order.{is_for, in_order, trigger_order, targets}
use Rattle.toolkit_model.specs.Registry.{is_on, row_on, is_registered, with_code, without_row}
use Rattle.toolkit_model.specs.Steps.{AreRows}
use Rattle.toolkit_model.proofs.AreRowsLemmas.{apart_of}
use Rattle.event_dispatch.proofs.RowPlacedLemmas.{taken_first, taken_second, is_other}
use Rattle.event_dispatch.proofs.WithoutCodeLemmas.{shelf_of, all_others_stay, recoded, same_order, same_shelf, same_code, targets_kept}
use Rattle.event_dispatch.proofs.StandsForLemmas.{AreKnown, no_targets}

abbrev pub code_of : ℕ × ℕ → ℕ
code_of event = event.0

with_none : (a b : Bool) → false ≡ b → (a && b) ≡ b
with_none true b none = refl
with_none false b none = none

-- ---- which codes are among sorted ones

module _ (x : ℕ) (codes : List ℕ) where
  abbrev has : ℕ → Bool
  has code = list_any (λ other. other == code) codes

  abbrev among : List (ℕ × ℕ) → Bool
  among events = list_any (λ code. code == x) (map code_of events)

  one_sought : (event : ℕ × ℕ) (rest : List (ℕ × ℕ)) (known : Bool) → among rest ≡ (known && has x) → (is b : Bool) → (event.0 == x) ≡ is → (is ≡ true → b ≡ has x)
      → among (cond b (event ∷ rest) rest) ≡ ((is || known) && has x)
  one_sought event rest known e true true is same = ap (λ (t : Bool). t || among rest) is ∙ same refl
  one_sought event rest known e true false is same = e ∙ with_none known (has x) (same refl)
  one_sought event rest known e false true is same = ap (λ (t : Bool). t || among rest) is ∙ e
  one_sought event rest known e false false is same = e

  sought : (table : List (ℕ × ℕ)) → among (filter (λ event. has event.0) table) ≡ (list_any (λ event. event.0 == x) table && has x)
  sought [] = refl
  sought (event ∷ table) =
      one_sought event (filter (λ event. has event.0) table) (list_any (λ event. event.0 == x) table) (sought table) (event.0 == x) (has event.0) refl
      (λ is. ap (λ (code : ℕ). has code) (eqb-true event.0 x is))

  pub has_sorted : list_any (λ code. code == x) (sorted_codes codes) ≡ (is_code x && has x)
  has_sorted = sought event_codes

not_in_one : (event : ℕ × ℕ) (table : List (ℕ × ℕ)) (x : ℕ) → (list_any (λ event. event.0 == x) table ≡ false → find (λ event. event.0 == x) table ≡ None) → (b : Bool)
    → (b || list_any (λ event. event.0 == x) table) ≡ false → cond b (Some event) (find (λ event. event.0 == x) table) ≡ None
not_in_one event table x rest true is = cc is
not_in_one event table x rest false is = rest is

not_in_table : (table : List (ℕ × ℕ)) (x : ℕ) → list_any (λ event. event.0 == x) table ≡ false → find (λ event. event.0 == x) table ≡ None
not_in_table [] x is = refl
not_in_table (event ∷ table) x is = not_in_one event table x (not_in_table table x) (event.0 == x) is

no_bit : (code : ℕ) → is_code code ≡ false → bit_of code ≡ None
no_bit code is = ap (λ (found : Option (ℕ × ℕ)). option_map (λ event. event.1) found) (not_in_table event_codes code is)

-- ---- what a row with one more code is registered for

abbrev pub more : ℕ → Registration → Registration
more code row = record row { codes = sorted_codes (code ∷ row.codes) }

itself : (code : ℕ) → (code == code) ≡ true
itself code = grind (arith, nat_tests)

differs : (a b : ℕ) → b ≢ a → (a == b) ≡ false
differs a b far = grind (arith, nat_tests)

pub for_more : (code : ℕ) (row : Registration) → is_code code ≡ true → is_for code (more code row) ≡ true
for_more code row is =
    has_sorted code (code ∷ row.codes) ∙ ap (λ (known : Bool). known && ((code == code) || is_for code row)) is ∙ ap (λ (same : Bool). same || is_for code row) (itself code)

for_others : (code other : ℕ) (row : Registration) → other ≢ code → is_code other ≡ true → is_for other (more code row) ≡ is_for other row
for_others code other row far is =
    has_sorted other (code ∷ row.codes) ∙ ap (λ (known : Bool). known && ((code == other) || is_for other row)) is ∙ ap (λ (same : Bool). same || is_for other row) (differs code other far)

pub others_stay : (rows : List Registration) (s code other : ℕ) → other ≢ code → All AreKnown rows → All AreKnown (with_code rows s code) → targets (with_code rows s code) other ≡ targets rows other
others_stay rows s code other far known still = by_known (is_code other) refl where
  by_known : (b : Bool) → is_code other ≡ b → targets (with_code rows s code) other ≡ targets rows other
  by_known true is =
      let g : List ℕ → List ℕ = λ codes. sorted_codes (code ∷ codes) in
      targets_kept (recoded s g) other (λ a b. same_order s g a b (is_on s a) (is_on s b)) (λ row. same_code g other row (for_others code other row far is) (is_on s row)) (λ row. same_shelf g row (is_on s row)) rows
  by_known false is = no_targets (with_code rows s code) other still (no_bit other is) ∙ sym (no_targets rows other known (no_bit other is))

-- ---- the rows of other shelves

alike : (s : ℕ) (row other : Registration) (left : List Registration) → other.shelf ≡ row.shelf → (b : Bool) → is_on s row ≡ b
    → cond (is_other s (cond b other row)) (cond b other row ∷ left) left ≡ cond (not b) (row ∷ left) left
alike s row other left same true is = taken_second (is_other s other) (other ∷ left) left (ap (λ (n : ℕ). not (n == s)) same ∙ ap not is)
alike s row other left same false is = taken_first (is_other s row) (row ∷ left) left (ap not is)

gone_alike : (code s : ℕ) (rows : List Registration) → without_row (with_code rows s code) s ≡ without_row rows s
gone_alike code s [] = refl
gone_alike code s (row ∷ rows) =
    alike s row (more code row) (without_row (with_code rows s code) s) refl (is_on s row) refl
    ∙ ap (λ (left : List Registration). cond (not (is_on s row)) (row ∷ left) left) (gone_alike code s rows)

one_unregistered : (s code : ℕ) (row : Registration) (rows : List Registration) → All (λ other. row.shelf ≢ other.shelf) rows
    → (is_registered rows s code ≡ false → filter (is_for code) (without_row rows s) ≡ filter (is_for code) rows) → (b : Bool) → is_on s row ≡ b
    → option_map_or (is_for code) (cond b (Some row) (row_on rows s)) false ≡ false
    → filter (is_for code) (cond (not b) (row ∷ without_row rows s) (without_row rows s)) ≡ filter (is_for code) (row ∷ rows)
one_unregistered s code row rows beside rest true on absent =
    ap (filter (is_for code)) (all_others_stay s rows (subst (λ (n : ℕ). All (λ other. n ≢ other.shelf) rows) (eqb-true row.shelf s on) beside))
    ∙ sym (taken_second (is_for code row) (row ∷ filter (is_for code) rows) (filter (is_for code) rows) absent)
one_unregistered s code row rows beside rest false on absent = ap (λ (left : List Registration). cond (is_for code row) (row ∷ left) left) (rest absent)

unregistered : (s code : ℕ) (rows : List Registration) → AllPairs (λ a b. a.shelf ≢ b.shelf) rows → is_registered rows s code ≡ false → filter (is_for code) (without_row rows s) ≡ filter (is_for code) rows
unregistered s code [] once absent = refl
unregistered s code (row ∷ rows) once absent =
    one_unregistered s code row rows (pairs_head (λ a b. a.shelf ≢ b.shelf) row rows once) (unregistered s code rows (pairs_tail (λ a b. a.shelf ≢ b.shelf) row rows once)) (is_on s row) refl absent

pub targets_unregistered : (rows : List Registration) (s code : ℕ) → AreRows rows → is_registered rows s code ≡ false → targets (without_row rows s) code ≡ targets rows code
unfolding trigger_order
targets_unregistered rows s code are absent = ap (λ (rows : List Registration). map shelf_of (in_order rows)) (unregistered s code rows (apart_of rows are) absent)

pub lacks_more : (rows : List Registration) (s code : ℕ) → AreRows rows → is_registered rows s code ≡ false → targets rows code ≡ targets (without_row (with_code rows s code) s) code
lacks_more rows s code are absent = sym (ap (λ (rows : List Registration). targets rows code) (gone_alike code s rows) ∙ targets_unregistered rows s code are absent)

-- ---- the row is registered then

one_registered : (s code : ℕ) (row : Registration) (rows : List Registration) → is_code code ≡ true → (b : Bool) → is_on s row ≡ b → (b ≡ false → is_registered (with_code rows s code) s code ≡ true)
    → option_map_or (is_for code) (cond (is_on s (cond b (more code row) row)) (Some (cond b (more code row) row)) (row_on (with_code rows s code) s)) false ≡ true
one_registered s code row rows is true on later =
    ap (λ (found : Option Registration). option_map_or (is_for code) found false) (taken_first (is_on s row) (Some (more code row)) (row_on (with_code rows s code) s) on) ∙ for_more code row is
one_registered s code row rows is false on later =
    ap (λ (found : Option Registration). option_map_or (is_for code) found false) (taken_second (is_on s row) (Some row) (row_on (with_code rows s code) s) on) ∙ later refl

pub registered_then : (rows : List Registration) (s code : ℕ) → is_code code ≡ true → Contains (map shelf_of rows) s → is_registered (with_code rows s code) s code ≡ true
registered_then [] s code is there = absurd (omega arith)
registered_then (row ∷ rows) s code is there =
    one_registered s code row rows is (is_on s row) refl
    (λ off. registered_then rows s code is (⊎_elim {C = Contains (map shelf_of rows) s}
    (λ here. absurd (apart row.shelf s (only_there row.shelf s here) off)) (λ later. later) (Contains-append_cases (row.shelf ∷ []) (map shelf_of rows) s there))) where
      apart : (a b : ℕ) → a ≡ b → (a == b) ≡ false → ⊥
      apart a b same off = grind (arith, nat_tests)
