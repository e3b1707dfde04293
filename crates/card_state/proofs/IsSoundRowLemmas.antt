-- The rows of a state by their shelves: what the checks tell of them is what a sound state says.
use Rattle.std.proofs.Common.{◌≡◌, ℕ, ◌≤◌, ◌<◌, Bool, true, false, cond, List, [], ◌∷◌, ◌++◌, length, map, refl, sym, ◌∙◌, ap, subst, ⊎_elim, arith, ◌==◌, not, filter, All, AllPairs, Contains, count_by, slice_index, slice_range}
use Rattle.std.specs.Int.{bit_at}
use Rattle.std.specs.List.{AllByRecursion}
use Rattle.std.proofs.lemmas.Bool.{cases_Bool, eqb-true, eqb-false, eq-eqb, ne_eqb, and_left, and_right, false_from_ne_true, both_ways}
use Rattle.std.proofs.lemmas.List.{length-take, map-append}
use Rattle.std.proofs.lemmas.List.Elements.{All-contains, All-filter, All-from_recursion, filter_passes, All-map, filter-append, Contains-append_right}
use Rattle.list_laws.proofs.CondLemmas.{second_false}
use Rattle.card_state.specs.declared.entries.Row.{Row}
use Rattle.card_state.specs.Blank.{unused_row}
use Rattle.card_state.specs.Kinds.{event_codes, codes_of, call_control_bit, call_control_code}
use Rattle.card_state.proofs.AreEventCodesLemmas.{codes_known}
use Rattle.card_state.specs.Places.{sequence_place, row_count}
use Rattle.card_state.specs.Decoding.{number_at, is_wide, row_of, row_bytes, kept_bytes, row_at}
use Rattle.card_state.specs.Soundness.{IsSoundRow, AreDifferent}
use Rattle.card_state.specs.Checks.{is_call_control, has_row_text, has_sequence_of, row_there, rows_below}
use Rattle.card_state.specs.Forms.{IsRowForm}
use Rattle.card_state.proofs.FilterRangeLemmas.{all_kept, kept_all, pairs_kept, kept_pairs, count_kept}
use Rattle.card_state.proofs.RangeWithLenLemmas.{none_below, below_none, few_pass, pass_few}
use Rattle.card_state.proofs.IsRegistrationLemmas.{IsRegistration}
use Rattle.card_state.proofs.StateOfLemmas.{is_taken, registration_at, rows, row_is_there, row_spelled, no_row_there}
use Rattle.card_state.proofs.AreNodesRightLemmas.{AreRowsRight}

-- ---- the event of call control

module _ (bits : ℕ) where
  abbrev is_set : ℕ × ℕ → Bool
  is_set event = bit_at bits event.1 == 1

  abbrev IsControl : ℕ × ℕ → Type 0
  IsControl event = event.0 ≡ call_control_code → event.1 ≡ call_control_bit

  controls : AllByRecursion IsControl event_codes
  controls =
      (λ is. absurd (omega arith), (λ is. absurd (omega arith), (λ is. absurd (omega arith), (λ is. absurd (omega arith), (λ is. absurd (omega arith), (λ is. absurd (omega arith), (λ is. absurd (omega arith), (λ is. absurd (omega arith), (λ is. absurd (omega arith), (λ is. absurd (omega arith), (λ is. absurd (omega arith), (λ is. refl, tt))))))))))))

  abbrev IsSet : ℕ → Type 0
  IsSet code = code ≡ call_control_code → (bit_at bits call_control_bit == 1) ≡ true

  all_set : All IsSet (codes_of bits)
  all_set =
      All-map IsSet (λ (event : ℕ × ℕ). event.0) (filter is_set event_codes)
      (λ k d low is.
      let control = All-filter is_set IsControl event_codes (All-from_recursion IsControl event_codes controls) k d low in
      ap (λ (bit : ℕ). bit_at bits bit == 1) (sym (control is)) ∙ filter_passes is_set event_codes k d low)

  pub control_told : Contains (codes_of bits) call_control_code → (bit_at bits call_control_bit == 1) ≡ true
  control_told there = All-contains IsSet (codes_of bits) call_control_code all_set there refl

last_passes : {X Y : Type 0} (of : X → Y) (test : X → Bool) (front : List X) (x : X) → test x ≡ true → Contains (map of (filter test (front ++ x ∷ []))) (of x)
last_passes of test front x is =
    let parts = ap (map of) (filter-append test front (x ∷ [])) ∙ map-append of (filter test front) (filter test (x ∷ [])) in
    let one : map of (filter test (x ∷ [])) ≡ of x ∷ [] = ap (λ (b : Bool). map of (cond b (x ∷ []) [])) is in
    let last : Contains (map of (filter test (x ∷ []))) (of x) = subst (λ (l : List _). Contains l (of x)) (sym one) (0, omega arith, refl) in
    subst (λ (l : List _). Contains l (of x)) (sym parts) (Contains-append_right (map of (filter test front)) (map of (filter test (x ∷ []))) (of x) last)

pub control_taken : (bits : ℕ) → (bit_at bits call_control_bit == 1) ≡ true → Contains (codes_of bits) call_control_code
control_taken bits is =
    last_passes (λ (event : ℕ × ℕ). event.0) (λ (event : ℕ × ℕ). bit_at bits event.1 == 1)
    ((0x00, 0) ∷ (0x01, 1) ∷ (0x02, 2) ∷ (0x03, 3) ∷ (0x04, 4) ∷ (0x05, 5) ∷ (0x07, 6) ∷ (0x09, 7) ∷ (0x0A, 8) ∷ (0x40, 9) ∷ (0x41, 10) ∷ []) (0x45, 11) is

-- ---- a row's fields

text_fits : (bytes more : List ℕ) → length (row_of bytes more).text ≤ slice_index bytes 7
unfolding row_of
text_fits bytes more = omega (arith, length-take (slice_index bytes 7) (slice_range bytes 8 18))

kept_fits : (bytes more : List ℕ) → length (row_of bytes more).kept ≤ slice_index bytes 18
unfolding row_of
kept_fits bytes more = omega (arith, length-take (slice_index bytes 18) (slice_range bytes 19 51 ++ more))

events_are : (bytes more : List ℕ) → (row_of bytes more).events ≡ number_at bytes 5
unfolding row_of
events_are bytes more = refl

used_byte : (bytes more : List ℕ) → (row_of bytes more).used ≡ true → slice_index bytes 0 ≡ 1
unfolding row_of
used_byte bytes more is = eqb-true (slice_index bytes 0) 1 is

used_from : (bytes more : List ℕ) → slice_index bytes 0 ≡ 1 → (row_of bytes more).used ≡ true
unfolding row_of
used_from bytes more is = eq-eqb (slice_index bytes 0) 1 is

no_text : (row : Row) → row ≡ unused_row → has_row_text row ≡ false
no_text row is = ap has_row_text is

no_control : (row : Row) → row ≡ unused_row → is_call_control row ≡ false
no_control row is = ap is_call_control is

module _ (content : List ℕ) where
  abbrev wide : Bool
  wide = is_wide content

  abbrev next : ℕ
  next = number_at content sequence_place

  abbrev more : ℕ → List ℕ
  more shelf = cond wide (kept_bytes content shelf) []

  pub record AreRowsSound : Type 0 where
    pub each : All (IsSoundRow wide next) (rows content)
    pub different : AllPairs AreDifferent (rows content)
    pub texts : count_by (λ row. not (length row.text == 0)) (rows content) ≤ 16

  texts_counted : count_by (λ row. not (length row.text == 0)) (rows content) ≡ count_by has_row_text (rows_below content 32)
  unfolding rows
  texts_counted =
      count_kept (registration_at content) (is_taken content) (row_at content) (λ row. not (length row.text == 0)) has_row_text 32 (λ k is. refl) (λ k is. no_text (row_at content k) (no_row_there content k is))

  module _ (right : AreRowsRight content) where
    sound_row : (shelf : ℕ) → is_taken content shelf ≡ true → IsSoundRow wide next (registration_at content shelf)
    sound_row shelf is =
        let reg = right.each shelf is in
        let there = row_is_there content shelf is in
        record {
          shelf = there.0;
          kind = (reg.numbers.kind_low, reg.numbers.kind_high);
          priority = reg.numbers.priority;
          sequence = reg.numbers.sequence;
          codes = codes_known (row_at content shelf).events;
          text = omega (arith, ap (λ (row : Row). length row.text) there.1, text_fits (row_bytes content shelf) (more shelf), reg.text);
          kept = omega (arith, ap (λ (row : Row). length row.kept) there.1, kept_fits (row_bytes content shelf) (more shelf), reg.kept);
        }

    different : (a b : ℕ) → a < b → is_taken content a ≡ true → is_taken content b ≡ true → AreDifferent (registration_at content a) (registration_at content b)
    different a b less first second =
        let reg = right.each b second in
        record {
          shelf = less;
          sequence =
              let other = below_none (row_at content) (has_sequence_of (row_at content b)) b reg.sequence a less in
              eqb-false (row_at content a).sequence (row_at content b).sequence (second_false (is_taken content a) ((row_at content a).sequence == (row_at content b).sequence) other first);
          call_control = λ here there.
              both_ways (is_call_control (row_at content a)) (below_none (row_at content) is_call_control b (reg.control (control_told (row_at content b).events there)) a less)
              (control_told (row_at content a).events here);
        }

    pub rows_sound : AreRowsSound
    unfolding rows
    rows_sound = record {
      each = all_kept (registration_at content) (is_taken content) (IsSoundRow wide next) 32 (λ k low is. sound_row k is);
      different = pairs_kept (registration_at content) (is_taken content) AreDifferent 32 (λ a b less low first second. different a b less first second);
      texts =
          let few = few_pass (row_at content) has_row_text 16 32
          (λ k low some.
          ⊎_elim {C = count_by has_row_text (rows_below content k) < 16} (λ is. (right.each k is).texts some)
          (λ free. absurd (both_ways (has_row_text (row_at content k)) (no_text (row_at content k) (no_row_there content k free)) some)) (cases_Bool (is_taken content k))) in
          subst (λ (n : ℕ). n ≤ 16) (sym texts_counted) few;
    }

  module _ (sound : AreRowsSound) (forms : (shelf : ℕ) → shelf < row_count wide → IsRowForm wide (row_bytes content shelf)) where
    taken_low : (shelf : ℕ) → is_taken content shelf ≡ true → shelf < 32
    taken_low shelf is =
        let low = (row_is_there content shelf is).0 in
        let few : row_count wide ≤ 32 = elim wide as (λ b. row_count b ≤ 32) [ true ↦ omega arith | false ↦ omega arith ] in
        omega arith

    each_sound : (shelf : ℕ) → is_taken content shelf ≡ true → IsSoundRow wide next (registration_at content shelf)
    unfolding rows
    each_sound shelf is = kept_all (registration_at content) (is_taken content) (IsSoundRow wide next) 32 sound.each shelf (taken_low shelf is) is

    each_different : (a b : ℕ) → a < b → is_taken content a ≡ true → is_taken content b ≡ true → AreDifferent (registration_at content a) (registration_at content b)
    unfolding rows
    each_different a b less first second = kept_pairs (registration_at content) (is_taken content) AreDifferent 32 sound.different a b less (taken_low b second) first second

    registered : (shelf : ℕ) → is_taken content shelf ≡ true → IsRegistration wide next (rows_below content shelf) (row_bytes content shelf) (row_at content shelf)
    registered shelf is =
        let row = each_sound shelf is in
        let there = row_is_there content shelf is in
        let form = forms shelf there.0 in
        let used = used_byte (row_bytes content shelf) (more shelf) (ap (λ (row : Row). row.used) (sym there.1) ∙ is) in
        record {
          numbers = record {
            kind_low = row.kind.0;
            kind_high = row.kind.1;
            priority = row.priority;
            sequence = row.sequence;
            events = omega (arith, ap (λ (row : Row). row.events) there.1, events_are (row_bytes content shelf) (more shelf), form.events used);
          };
          text = form.text_length used;
          kept = form.kept_length used;
          sequence =
              none_below (row_at content) (has_sequence_of (row_at content shelf)) shelf
              (λ k less.
              ⊎_elim {C = has_sequence_of (row_at content shelf) (row_at content k) ≡ false}
              (λ other. and_right (is_taken content k) ((row_at content k).sequence == (row_at content shelf).sequence) (ne_eqb (row_at content k).sequence (row_at content shelf).sequence (each_different k shelf less other is).sequence))
              (and_left (is_taken content k) ((row_at content k).sequence == (row_at content shelf).sequence)) (cases_Bool (is_taken content k)));
          control = λ control.
              none_below (row_at content) is_call_control shelf
              (λ k less.
              ⊎_elim {C = is_call_control (row_at content k) ≡ false}
              (λ other.
              false_from_ne_true (is_call_control (row_at content k))
              (λ also. (each_different k shelf less other is).call_control (control_taken (row_at content k).events also) (control_taken (row_at content shelf).events control)))
              (λ free. no_control (row_at content k) (no_row_there content k free)) (cases_Bool (is_taken content k)));
          texts = λ some. pass_few (row_at content) has_row_text 16 32 (subst (λ (n : ℕ). n ≤ 16) texts_counted sound.texts) shelf (taken_low shelf is) some;
        }

    pub rows_right : AreRowsRight content
    rows_right = record { flags = λ shelf low. (forms shelf low).used; each = registered }

  -- the forms of the rows
  pub row_forms : AreRowsRight content → (shelf : ℕ) → shelf < row_count wide → IsRowForm wide (row_bytes content shelf)
  row_forms right shelf low =
      let used : slice_index (row_bytes content shelf) 0 ≡ 1 → (row_at content shelf ≡ row_there content shelf) × (is_taken content shelf ≡ true) =
      λ one.
      let is = used_from (row_bytes content shelf) (more shelf) one in
      let there = row_spelled content shelf low is in
      (there, ap (λ (row : Row). row.used) there ∙ is) in
      record {
        used = right.flags shelf low;
        events = λ one. omega (arith, ap (λ (row : Row). row.events) (used one).0, events_are (row_bytes content shelf) (more shelf), (right.each shelf (used one).1).numbers.events);
        text_length = λ one. (right.each shelf (used one).1).text;
        kept_length = λ one. (right.each shelf (used one).1).kept;
      }
