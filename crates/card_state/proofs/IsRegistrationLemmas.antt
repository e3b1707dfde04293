-- What the check of a row tells, and what it takes.
use Rattle.std.proofs.Common.{◌≡◌, ℕ, ◌≤◌, ◌<◌, Bool, true, false, List, refl, ⊎_elim, arith, not, ◌&&◌, ◌||◌, nat_le, slice_index}
use Rattle.std.specs.List.{list_any, count_by}
use Rattle.std.proofs.lemmas.Bool.{cases_Bool, and_parts, and_from, or_left, or_right, or_cases, not-true, not_from_false, leb-true, le-leb, leb-false, lt-leb, both_ways, false≢true}
use Rattle.std.proofs.lemmas.Bool.Decides.{nat_tests}
use Rattle.card_state.specs.declared.entries.Row.{Row}
use Rattle.card_state.specs.Places.{kept_limit}
use Rattle.card_state.specs.Checks.{is_flag, is_call_control, has_row_text, has_known_numbers, has_short_parts, has_sequence_of, has_own_sequence, leaves_call_control, leaves_texts, is_registration, is_row}

pub record HasKnownNumbers (next : ℕ) (row : Row) : Type 0 where
  pub kind_low : 1 ≤ row.kind
  pub kind_high : row.kind ≤ 7
  pub priority : 1 ≤ row.priority
  pub sequence : row.sequence < next
  pub events : row.events < 4096

pub record IsRegistration (wide : Bool) (next : ℕ) (earlier : List Row) (bytes : List ℕ) (row : Row) : Type 0 where
  pub numbers : HasKnownNumbers next row
  pub text : slice_index bytes 7 ≤ 10
  pub kept : slice_index bytes 18 ≤ kept_limit wide
  pub sequence : list_any (has_sequence_of row) earlier ≡ false
  pub control : is_call_control row ≡ true → list_any is_call_control earlier ≡ false
  pub texts : has_row_text row ≡ true → count_by has_row_text earlier < 16

numbers_told : (next : ℕ) (row : Row) → has_known_numbers next row ≡ true → HasKnownNumbers next row
numbers_told next row is = record {
  kind_low = grind (arith, nat_tests);
  kind_high = grind (arith, nat_tests);
  priority = grind (arith, nat_tests);
  sequence = grind (arith, nat_tests);
  events = grind (arith, nat_tests);
}

numbers_taken : (next : ℕ) (row : Row) → HasKnownNumbers next row → has_known_numbers next row ≡ true
numbers_taken next row known = grind (arith, nat_tests)

-- where the first holds, the second does not
not_both_told : (a b : Bool) → not (a && b) ≡ true → a ≡ true → b ≡ false
not_both_told true true is first = absurd (false≢true is)
not_both_told true false is first = refl
not_both_told false b is first = absurd (false≢true first)

not_both_taken : (a b : Bool) → (a ≡ true → b ≡ false) → not (a && b) ≡ true
not_both_taken true b other = not_from_false b (other refl)
not_both_taken false b other = refl

module _ (wide : Bool) (next : ℕ) (earlier : List Row) (bytes : List ℕ) (row : Row) where
  abbrev numbers : Bool
  numbers = has_known_numbers next row

  abbrev parts : Bool
  parts = has_short_parts wide bytes

  abbrev own : Bool
  own = has_own_sequence earlier row

  abbrev control : Bool
  control = leaves_call_control earlier row

  abbrev texts : Bool
  texts = leaves_texts earlier row

  pub registration_told : is_registration wide next earlier bytes row ≡ true → IsRegistration wide next earlier bytes row
  registration_told is =
      let last = and_parts (numbers && parts && own && control) texts is in
      let fourth = and_parts (numbers && parts && own) control last.0 in
      let third = and_parts (numbers && parts) own fourth.0 in
      let second = and_parts numbers parts third.0 in
      let short = and_parts (nat_le (slice_index bytes 7) 10) (nat_le (slice_index bytes 18) (kept_limit wide)) second.1 in
      record {
        numbers = numbers_told next row second.0;
        text = leb-true (slice_index bytes 7) 10 short.0;
        kept = leb-true (slice_index bytes 18) (kept_limit wide) short.1;
        sequence = not-true (list_any (has_sequence_of row) earlier) third.1;
        control = not_both_told (is_call_control row) (list_any is_call_control earlier) fourth.1;
        texts = λ some. leb-false 16 (count_by has_row_text earlier) (not_both_told (has_row_text row) (nat_le 16 (count_by has_row_text earlier)) last.1 some);
      }

  pub registration_taken : IsRegistration wide next earlier bytes row → is_registration wide next earlier bytes row ≡ true
  registration_taken known =
      let short = and_from (nat_le (slice_index bytes 7) 10) (nat_le (slice_index bytes 18) (kept_limit wide)) (le-leb (slice_index bytes 7) 10 known.text) (le-leb (slice_index bytes 18) (kept_limit wide) known.kept) in
      let second = and_from numbers parts (numbers_taken next row known.numbers) short in
      let third = and_from (numbers && parts) own second (not_from_false (list_any (has_sequence_of row) earlier) known.sequence) in
      let fourth = and_from (numbers && parts && own) control third (not_both_taken (is_call_control row) (list_any is_call_control earlier) known.control) in
      and_from (numbers && parts && own && control) texts fourth
      (not_both_taken (has_row_text row) (nat_le 16 (count_by has_row_text earlier)) (λ some. lt-leb 16 (count_by has_row_text earlier) (known.texts some)))

  pub row_told : is_row wide next earlier bytes row ≡ true → (slice_index bytes 0 ≤ 1) × (row.used ≡ true → IsRegistration wide next earlier bytes row)
  row_told is =
      let parts = and_parts (is_flag (slice_index bytes 0)) (not row.used || is_registration wide next earlier bytes row) is in (
        leb-true (slice_index bytes 0) 1 parts.0,
        λ used. ⊎_elim {C = IsRegistration wide next earlier bytes row} (λ free. absurd (both_ways row.used (not-true row.used free) used)) registration_told
            (or_cases (not row.used) (is_registration wide next earlier bytes row) parts.1),
      )

  pub row_taken : slice_index bytes 0 ≤ 1 → (row.used ≡ true → IsRegistration wide next earlier bytes row) → is_row wide next earlier bytes row ≡ true
  row_taken flag known =
      and_from (is_flag (slice_index bytes 0)) (not row.used || is_registration wide next earlier bytes row) (le-leb (slice_index bytes 0) 1 flag)
      (⊎_elim {C = (not row.used || is_registration wide next earlier bytes row) ≡ true}
      (λ used. or_right (not row.used) (is_registration wide next earlier bytes row) (registration_taken (known used)))
      (λ free. or_left (not row.used) (is_registration wide next earlier bytes row) (not_from_false row.used free)) (cases_Bool row.used))
