-- The rows by their shelves, and as a contract sees them.
use Rattle.std.proofs.Common.{get_or, set, ◌≡◌, ◌≢◌, ℕ, ◌+◌, ◌≤◌, ◌<◌, Bool, true, false, cond, List, [], ◌∷◌, length, map, replicate, refl, sym, ◌∙◌, ap, subst, ⊎_elim, arith, ◌&&◌, ◌||◌, ◌==◌, not, nat_le, nat_lt, filter, count_by}
use Rattle.std.specs.Int.{bit_at}
use Rattle.std.specs.List.{list_any, enumerate_from}
use Rattle.std.proofs.lemmas.Bool.{cases_eq, cases_Bool, leb-true, leb-false, both_ways, and_parts, not-true}
use Rattle.std.proofs.lemmas.List.Folds.{list_any_at}
use Rattle.std.proofs.lemmas.List.{append_assoc, length-set, get_or_default, get_or-set_same, get_or-set_other, get_or-replicate}
use Rattle.std.proofs.lemmas.List.Sums.{sum_by-set}
use Rattle.std.proofs.Math.Bool.{and-false, and-true, or-false}
use Rattle.card_state.specs.declared.entries.Row.{Row}
use Rattle.card_state.specs.Blank.{unused_row}
use Rattle.card_state.specs.Kinds.{event_codes, codes_of, call_control_code, call_control_bit}
use Rattle.card_state.specs.Persistent.{Registration}
use Rattle.card_state.specs.States.{registration_of, used_rows}
use Rattle.card_state.specs.Sections.{is_call_control, has_text, needs_wide, with_row}
use Rattle.card_state.specs.Checks as Checked
use Rattle.card_state.specs.declared.installation.Installed.{Installed}
use Rattle.card_state.specs.Checks.{shows_item}
use Rattle.layout_section.specs.Installing.{answers_calls, has_item, may_take}
use Rattle.layout_section.specs.RowTables.{is_used, controls, wants_wide, IsNewRow, AreRowsOf}
use Rattle.layout_section.proofs.PresentLemmas.{list_any-passing, count_by-passing, list_any-unnumbered, count_by-unnumbered, IsOrdered, one_more, is_taken}

abbrev pub rows_in : List Row → List Registration
rows_in rows = map (λ entry. registration_of entry.0 entry.1) (used_rows rows)

-- the code of call control is there exactly where its bit is set
pub code_bit : (bits : ℕ) → list_any (λ code. code == call_control_code) (codes_of bits) ≡ (bit_at bits call_control_bit == 1)
code_bit bits = list_any-passing (λ event. bit_at bits event.1 == 1) (λ event. event.0) (λ code. code == call_control_code) event_codes ∙ simp (and-false, and-true, or-false)

same_any : {X : Type 0} (p q : X → Bool) → ((x : X) → p x ≡ q x) → (xs : List X) → list_any p xs ≡ list_any q xs
same_any p q each [] = refl
same_any p q each (x ∷ xs) = ap (λ b. b || list_any p xs) (each x) ∙ ap (λ b. q x || b) (same_any p q each xs)

pub rows_control : (rows : List Row) → list_any is_call_control (rows_in rows) ≡ list_any controls rows
rows_control rows =
    list_any-passing (λ entry. entry.1.used) (λ entry. registration_of entry.0 entry.1) is_call_control (enumerate_from 0 rows)
    ∙ same_any (λ entry. entry.1.used && is_call_control (registration_of entry.0 entry.1)) (λ entry. controls entry.1) (λ entry. ap (λ b. entry.1.used && b) (code_bit entry.1.events)) (enumerate_from 0 rows)
    ∙ list_any-unnumbered controls 0 rows

pub rows_show : (rows : List Row) → count_by has_text (rows_in rows) ≡ count_by shows_item rows
rows_show rows =
    count_by-passing (λ entry. entry.1.used) (λ entry. registration_of entry.0 entry.1) has_text (enumerate_from 0 rows) ∙ count_by-unnumbered shows_item 0 rows

pub rows_want_wide : (rows : List Row) → list_any needs_wide (rows_in rows) ≡ list_any (λ entry. wants_wide entry.0 entry.1) (enumerate_from 0 rows)
rows_want_wide rows = list_any-passing (λ entry. entry.1.used) (λ entry. registration_of entry.0 entry.1) needs_wide (enumerate_from 0 rows)

ordered : (n : ℕ) (rows : List Row) → IsOrdered is_used registration_of (λ row. row.shelf) n rows
ordered n [] = tt
ordered n (row ∷ rows) = (λ _. refl, ordered (n + 1) rows)

pub shelf_taken : (rows : List Row) (shelf : ℕ) (d : Row) → shelf < length rows → list_any (λ row. row.shelf == shelf) (rows_in rows) ≡ (get_or rows shelf d).used
shelf_taken rows shelf d low = is_taken is_used registration_of (λ row. row.shelf) shelf 0 shelf rows d (omega arith) low (ordered 0 rows)

pub row_put : (rows : List Row) (shelf : ℕ) (row d : Row) → shelf < length rows → (get_or rows shelf d).used ≡ false → row.used ≡ true
    → rows_in (set rows shelf row) ≡ with_row (rows_in rows) (registration_of shelf row)
row_put rows shelf row d low free used =
    one_more is_used registration_of (λ row. row.shelf) shelf 0 shelf rows row d (omega arith) low free used (ordered 0 rows)
    ∙ sym (append_assoc (filter (λ other. nat_lt other.shelf shelf) (rows_in rows)) (registration_of shelf row ∷ []) (filter (λ other. nat_lt shelf other.shelf) (rows_in rows)))

-- ---- what holds of the rows

pub no_rows : (rows : List Row) → rows ≡ replicate 32 unused_row → AreRowsOf rows 0
no_rows rows is = record {
  long = ap (λ (l : List Row). length l) is;
  count = sym (ap (count_by is_used) is);
  each = λ k low used. absurd (cc (sym used ∙ unused k low));
  blank = λ k low used. there k low;
  calls = λ j k order low calls calls'. absurd (cc (sym calls' ∙ ap controls (there k low)));
  texts = omega (arith, ap (count_by shows_item) is);
  apart = λ j k order low used used' same. absurd (cc (sym used' ∙ unused k low));
} where
  there : (k : ℕ) → k < 32 → get_or rows k unused_row ≡ unused_row
  there k low = ap (λ l. get_or l k unused_row) is ∙ get_or-replicate 32 k unused_row unused_row low

  unused : (k : ℕ) → k < 32 → (get_or rows k unused_row).used ≡ false
  unused k low = ap (λ (row : Row). row.used) (there k low)

abbrev weight : Bool → ℕ
weight flag = cond flag 1 0

weaker : (next : ℕ) (row : Row) → IsNewRow next row → IsNewRow (next + 1) row
weaker next row is = record { kind = is.kind; priority = is.priority; sequence = omega (arith, is.sequence); events = is.events; text = is.text; kept = is.kept }

pub row_kept : (rows : List Row) (next shelf : ℕ) (row : Row) → (controls row && list_any controls rows) ≡ false → (shows_item row && nat_le 16 (count_by shows_item rows)) ≡ false → length rows ≡ 32 → shelf < 32 → (get_or rows shelf unused_row).used ≡ false → row.used ≡ true → row.sequence ≡ next
    → IsNewRow (next + 1) row → AreRowsOf rows next → AreRowsOf (set rows shelf row) (next + 1)
row_kept rows next shelf row one_calls few_texts long low free used sequence new are = record {
  long = length-set rows shelf row ∙ long;
  count = omega (arith, ap weight free, ap weight used, are.count, sum_by-set (λ row. weight row.used) rows shelf row unused_row (omega arith));
  each = λ k below there.
      ⊎_elim {C = IsNewRow (next + 1) (get_or (set rows shelf row) k unused_row)}
      (λ same. subst (IsNewRow (next + 1)) (sym (here k same)) new)
      (λ other. subst (IsNewRow (next + 1)) (sym (elsewhere k other)) (weaker next (get_or rows k unused_row) (are.each k below (sym (ap (λ (r : Row). r.used) (elsewhere k other)) ∙ there)))) (cases_eq k shelf);
  blank = λ k below unused.
      ⊎_elim {C = get_or (set rows shelf row) k unused_row ≡ unused_row}
      (λ same. absurd (cc (sym unused ∙ ap (λ (r : Row). r.used) (here k same) ∙ used)))
      (λ other. elsewhere k other ∙ are.blank k below (sym (ap (λ (r : Row). r.used) (elsewhere k other)) ∙ unused)) (cases_eq k shelf);
  calls = λ j k order below call_j call_k.
      ⊎_elim {C = ⊥}
      (λ at_j. let other : k ≢ shelf = λ e. omega arith in
      alone k below (sym (ap controls (here j at_j)) ∙ call_j) (sym (ap controls (elsewhere k other)) ∙ call_k))
      (λ not_j.
      ⊎_elim {C = ⊥}
      (λ at_k. alone j (omega arith) (sym (ap controls (here k at_k)) ∙ call_k) (sym (ap controls (elsewhere j not_j)) ∙ call_j))
      (λ not_k. are.calls j k order below (sym (ap controls (elsewhere j not_j)) ∙ call_j) (sym (ap controls (elsewhere k not_k)) ∙ call_k)) (cases_eq k shelf)) (cases_eq j shelf);
  texts =
      let counted = sum_by-set (λ row. weight (shows_item row)) rows shelf row unused_row (omega arith) in
      let before : shows_item (get_or rows shelf unused_row) ≡ false = ap (λ b. b && Checked.has_row_text (get_or rows shelf unused_row)) free in
      ⊎_elim {C = count_by shows_item (set rows shelf row) ≤ 16}
      (λ shown.
      let few : count_by shows_item rows < 16 = leb-false 16 (count_by shows_item rows) (sym (ap (λ b. b && nat_le 16 (count_by shows_item rows)) shown) ∙ few_texts) in
      omega (arith, counted, ap weight before, ap weight shown))
      (λ hidden. omega (arith, counted, ap weight before, ap weight hidden, are.texts)) (cases_Bool (shows_item row));
  apart = λ j k order below used_j used_k same.
      ⊎_elim {C = ⊥}
      (λ at_j. let other : k ≢ shelf = λ e. omega arith in
      omega (arith, (are.each k below (sym (ap (λ (r : Row). r.used) (elsewhere k other)) ∙ used_k)).sequence, ap (λ (r : Row). r.sequence) (elsewhere k other), ap (λ (r : Row). r.sequence) (here j at_j), sequence, same))
      (λ not_j.
      ⊎_elim {C = ⊥}
      (λ at_k. omega (arith, (are.each j (omega arith) (sym (ap (λ (r : Row). r.used) (elsewhere j not_j)) ∙ used_j)).sequence, ap (λ (r : Row). r.sequence) (elsewhere j not_j), ap (λ (r : Row). r.sequence) (here k at_k), sequence, same))
      (λ not_k. are.apart j k order below (sym (ap (λ (r : Row). r.used) (elsewhere j not_j)) ∙ used_j) (sym (ap (λ (r : Row). r.used) (elsewhere k not_k)) ∙ used_k)
      (sym (ap (λ (r : Row). r.sequence) (elsewhere j not_j)) ∙ same ∙ ap (λ (r : Row). r.sequence) (elsewhere k not_k))) (cases_eq k shelf)) (cases_eq j shelf);
} where
  here : (k : ℕ) → k ≡ shelf → get_or (set rows shelf row) k unused_row ≡ row
  here k same = ap (λ n. get_or (set rows shelf row) n unused_row) same ∙ get_or-set_same rows shelf row unused_row (omega arith)

  elsewhere : (k : ℕ) → k ≢ shelf → get_or (set rows shelf row) k unused_row ≡ get_or rows k unused_row
  elsewhere k other = get_or-set_other rows shelf k row unused_row other

  alone : (k : ℕ) → k < 32 → controls row ≡ true → controls (get_or rows k unused_row) ≡ true → ⊥
  alone k below calls other = both_ways (list_any controls rows) (sym (ap (λ b. b && list_any controls rows) calls) ∙ one_calls) (list_any_at controls rows k unused_row (omega arith) other)

pub rows_in_none : (rows : List Row) → rows ≡ replicate 32 unused_row → rows_in rows ≡ []
rows_in_none rows is = ap rows_in is

-- what may stand beside the others, on the table
pub may_parts : (rows : List Row) (shelf priority : ℕ) (installed : Installed) → may_take (rows_in rows) shelf priority installed ≡ true
    → (shelf < 32) × (1 ≤ priority) × (list_any (λ row. row.shelf == shelf) (rows_in rows) ≡ false) × ((answers_calls installed && list_any controls rows) ≡ false)
    × ((has_item installed && nat_le 16 (count_by shows_item rows)) ≡ false)
may_parts rows shelf priority installed may =
    let low = nat_le shelf 31 in
    let some = nat_le 1 priority in
    let free = not (list_any (λ row. row.shelf == shelf) (rows_in rows)) in
    let calls = not (answers_calls installed && list_any is_call_control (rows_in rows)) in
    let texts = not (has_item installed && nat_le 16 (count_by has_text (rows_in rows))) in
    let first = and_parts (low && some && free && calls) texts may in
    let second = and_parts (low && some && free) calls first.0 in
    let third = and_parts (low && some) free second.0 in
    let fourth = and_parts low some third.0 in
    let bound : shelf ≤ 31 = leb-true shelf 31 fourth.0 in (
      omega arith,
      leb-true 1 priority fourth.1,
      not-true (list_any (λ row. row.shelf == shelf) (rows_in rows)) third.1,
      ap (λ b. answers_calls installed && b) (sym (rows_control rows)) ∙ not-true (answers_calls installed && list_any is_call_control (rows_in rows)) second.1,
      ap (λ n. has_item installed && nat_le 16 n) (sym (rows_show rows)) ∙ not-true (has_item installed && nat_le 16 (count_by has_text (rows_in rows))) first.1,
    )

pub kept_short : (rows : List Row) (next : ℕ) → AreRowsOf rows next → (k : ℕ) (d : Row) → k < length rows → length (get_or rows k d).kept ≤ 64
kept_short rows next are k d low =
    let inside : k < 32 = omega (arith, are.long) in
    let row : Row = get_or rows k unused_row in
    let few : length (get_or rows k unused_row).kept ≤ 64 =
    ⊎_elim {C = length (get_or rows k unused_row).kept ≤ 64} (λ used. (are.each k inside used).kept) (λ unused. omega (arith, ap (λ (r : Row). length r.kept) (are.blank k inside unused))) (cases_Bool (get_or rows k unused_row).used) in
    omega (arith, few, ap (λ (r : Row). length r.kept) (get_or_default rows k d unused_row low))
