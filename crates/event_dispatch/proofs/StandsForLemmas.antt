-- What an index stands for when one of its lists changes, or each of them.
use Rattle.std.proofs.Common.{◌≡◌, refl, sym, ap, ◌∙◌, ℕ, zero, suc, ◌<◌, false, List, [], ◌∷◌, map, filter, length, get_or, arith, subst, ⊎_elim, Option, Some, None, ◌≢◌, ◌==◌, Contains, All, find, option_map, slice_index_or, slice_set}
use Rattle.std.specs.Option.{option_map_or}
use Rattle.std.proofs.lemmas.List.Elements.{All-head, All-tail, All-weaker, All-contains, All-map}
use Rattle.std.proofs.lemmas.Grind.{common_steps}
use Rattle.std.specs.List.{list_any}
use Rattle.std.proofs.lemmas.Bool.{eqb-true, or_from, cases_eq, cond_both, ne_eqb}
use Rattle.uicc_types.specs.declared.events.TheConstants.{MT_CALL, CALL_CONNECTED, CALL_DISCONNECTED, LOCATION_STATUS, USER_ACTIVITY, IDLE_SCREEN, LANGUAGE_SELECTION, DATA_AVAILABLE, CHANNEL_STATUS, PROFILE_DOWNLOAD, STATUS_COMMAND, CALL_CONTROL}
use Rattle.card_state.specs.Persistent.{Registration}
use Rattle.card_state.specs.Kinds.{event_codes, known_codes}
use Rattle.card_state.specs.Events.{bit_of}
use Rattle.card_state.proofs.AreEventCodesLemmas.{codes_known}
use Rattle.card_state.specs.States.{rows_of, registration_of, used_rows}
use Rattle.card_state.specs.declared.entries.Loaded.{Loaded}
use Rattle.toolkit_model.specs.Order.{is_for, in_order, trigger_order, targets}
use Rattle.toolkit_model.specs.Registry.{without_row, without_code}
use Rattle.toolkit_model.specs.Steps.{AreRows}
use Rattle.event_dispatch.specs.Indexes.{targets_in, StandsFor, left_by}
use Rattle.event_dispatch.proofs.RowPlacedLemmas.{taken_second}
use Rattle.event_dispatch.proofs.WithoutCodeLemmas.{targets_left, targets_cleared, targets_of_others}

-- ---- each event has a bit of its own

bit_holds : (R : ℕ → ℕ → Type 0) (code : ℕ) (table : List (ℕ × ℕ)) → All (λ event. R event.0 event.1) table → (at : ℕ) → option_map (λ event. event.1) (find (λ event. event.0 == code) table) ≡ Some at → R code at
bit_holds R code [] all at = λ is. cc is
bit_holds R code (event ∷ table) all at =
    cond_both (event.0 == code) (Some event) (find (λ event. event.0 == code) table) (λ (found : Option (ℕ × ℕ)). option_map (λ event. event.1) found ≡ Some at → R code at)
    (λ h is. subst (λ (n : ℕ). R code n) (same_bit event.1 at is) (subst (λ (n : ℕ). R n event.1) (eqb-true event.0 code h) (All-head (λ event. R event.0 event.1) event table all)))
    (λ h is. bit_holds R code table (All-tail (λ event. R event.0 event.1) event table all) at is) where
      same_bit : (a b : ℕ) → Some a ≡ Some b → a ≡ b
      same_bit a b is = cc is

abbrev IsCodeOf : ℕ → ℕ → Type 0
IsCodeOf code bit = slice_index_or known_codes bit 0 ≡ code

table_right : All (λ event. IsCodeOf event.0 event.1) event_codes
table_right zero d low = refl
table_right (suc zero) d low = refl
table_right (suc (suc zero)) d low = refl
table_right (suc (suc (suc zero))) d low = refl
table_right (suc (suc (suc (suc zero)))) d low = refl
table_right (suc (suc (suc (suc (suc zero))))) d low = refl
table_right (suc (suc (suc (suc (suc (suc zero)))))) d low = refl
table_right (suc (suc (suc (suc (suc (suc (suc zero))))))) d low = refl
table_right (suc (suc (suc (suc (suc (suc (suc (suc zero)))))))) d low = refl
table_right (suc (suc (suc (suc (suc (suc (suc (suc (suc zero))))))))) d low = refl
table_right (suc (suc (suc (suc (suc (suc (suc (suc (suc (suc zero)))))))))) d low = refl
table_right (suc (suc (suc (suc (suc (suc (suc (suc (suc (suc (suc zero))))))))))) d low = refl
table_right (suc (suc (suc (suc (suc (suc (suc (suc (suc (suc (suc (suc k)))))))))))) d low = absurd (omega arith)

pub own_bit : (code other at : ℕ) → bit_of code ≡ Some at → bit_of other ≡ Some at → other ≡ code
own_bit code other at is too = sym (bit_holds IsCodeOf other event_codes table_right at too) ∙ bit_holds IsCodeOf code event_codes table_right at is

-- ---- one list is another

pub set_here : (lists : List (List ℕ)) (code at : ℕ) (shelves : List ℕ) → bit_of code ≡ Some at → at < length lists → targets_in (slice_set lists at shelves) code ≡ shelves
set_here lists code at shelves is low = ap (λ (bit : Option ℕ). option_map_or (λ bit. slice_index_or (slice_set lists at shelves) bit []) bit []) is ∙ put_there lists at shelves low where
  put_there : (lists : List (List ℕ)) (at : ℕ) (shelves : List ℕ) → at < length lists → slice_index_or (slice_set lists at shelves) at [] ≡ shelves
  put_there lists at shelves low = grind (arith, common_steps)

at_bit : (lists : List (List ℕ)) (at : ℕ) (shelves : List ℕ) (bit : Option ℕ) → (bit ≡ Some at → ⊥) → option_map_or (λ bit. slice_index_or (slice_set lists at shelves) bit []) bit [] ≡ option_map_or (λ bit. slice_index_or lists bit []) bit []
at_bit lists at shelves None far = refl
at_bit lists at shelves (Some bit) far = beside lists at bit shelves (λ same. far (ap (λ (n : ℕ). Some n) same)) where
  beside : (lists : List (List ℕ)) (at bit : ℕ) (shelves : List ℕ) → bit ≢ at → slice_index_or (slice_set lists at shelves) bit [] ≡ slice_index_or lists bit []
  beside lists at bit shelves far = grind (arith, common_steps)

pub set_beside : (lists : List (List ℕ)) (code other at : ℕ) (shelves : List ℕ) → bit_of code ≡ Some at → other ≢ code → targets_in (slice_set lists at shelves) other ≡ targets_in lists other
set_beside lists code other at shelves is far = at_bit lists at shelves (bit_of other) (λ too. far (own_bit code other at is too))

-- ---- what it stands for

pub cleared_stands : (rows : List Registration) (s code : ℕ) (lists changed : List (List ℕ)) → AreRows rows → StandsFor lists rows
    → targets_in changed code ≡ left_by s (targets_in lists code) → ((other : ℕ) → other ≢ code → targets_in changed other ≡ targets_in lists other) → StandsFor changed (without_code rows s code)
cleared_stands rows s code lists changed are stands here beside other =
    ⊎_elim {C = targets_in changed other ≡ targets (without_code rows s code) other}
    (λ same. subst (λ (n : ℕ). targets_in changed n ≡ targets (without_code rows s code) n) (sym same) (here ∙ ap (left_by s) (stands code) ∙ sym (targets_cleared rows s code are)))
    (λ far. beside other far ∙ stands other ∙ sym (targets_of_others rows s code other far))
    (cases_eq other code)

each_left : (s : ℕ) (lists : List (List ℕ)) (bit : Option ℕ) → option_map_or (λ bit. slice_index_or (map (left_by s) lists) bit []) bit [] ≡ left_by s (option_map_or (λ bit. slice_index_or lists bit []) bit [])
each_left s lists None = refl
each_left s lists (Some bit) = at lists bit where
  at : (lists : List (List ℕ)) (bit : ℕ) → slice_index_or (map (left_by s) lists) bit [] ≡ left_by s (slice_index_or lists bit [])
  at [] bit = refl
  at (x ∷ xs) zero = refl
  at (x ∷ xs) (suc bit) = at xs bit

pub left_stands : (rows : List Registration) (s : ℕ) (lists : List (List ℕ)) → AreRows rows → StandsFor lists rows → StandsFor (map (left_by s) lists) (without_row rows s)
left_stands rows s lists are stands code = each_left s lists (bit_of code) ∙ ap (left_by s) (stands code) ∙ sym (targets_left rows s code are)

-- ---- one that is built anew

abbrev has_bit : ℕ → ℕ → Type 0
has_bit code bit = bit < 12

bits_low : All (λ event. has_bit event.0 event.1) event_codes
bits_low zero d low = omega arith
bits_low (suc zero) d low = omega arith
bits_low (suc (suc zero)) d low = omega arith
bits_low (suc (suc (suc zero))) d low = omega arith
bits_low (suc (suc (suc (suc zero)))) d low = omega arith
bits_low (suc (suc (suc (suc (suc zero))))) d low = omega arith
bits_low (suc (suc (suc (suc (suc (suc zero)))))) d low = omega arith
bits_low (suc (suc (suc (suc (suc (suc (suc zero))))))) d low = omega arith
bits_low (suc (suc (suc (suc (suc (suc (suc (suc zero)))))))) d low = omega arith
bits_low (suc (suc (suc (suc (suc (suc (suc (suc (suc zero))))))))) d low = omega arith
bits_low (suc (suc (suc (suc (suc (suc (suc (suc (suc (suc zero)))))))))) d low = omega arith
bits_low (suc (suc (suc (suc (suc (suc (suc (suc (suc (suc (suc zero))))))))))) d low = omega arith
bits_low (suc (suc (suc (suc (suc (suc (suc (suc (suc (suc (suc (suc k)))))))))))) d low = absurd (omega arith)

pub low_bit : (code bit : ℕ) → bit_of code ≡ Some bit → bit < 12
low_bit code bit is = bit_holds has_bit code event_codes bits_low bit is

known_bits : All (λ code. bit_of code ≢ None) known_codes
known_bits zero d low = λ is. cc is
known_bits (suc zero) d low = λ is. cc is
known_bits (suc (suc zero)) d low = λ is. cc is
known_bits (suc (suc (suc zero))) d low = λ is. cc is
known_bits (suc (suc (suc (suc zero)))) d low = λ is. cc is
known_bits (suc (suc (suc (suc (suc zero))))) d low = λ is. cc is
known_bits (suc (suc (suc (suc (suc (suc zero)))))) d low = λ is. cc is
known_bits (suc (suc (suc (suc (suc (suc (suc zero))))))) d low = λ is. cc is
known_bits (suc (suc (suc (suc (suc (suc (suc (suc zero)))))))) d low = λ is. cc is
known_bits (suc (suc (suc (suc (suc (suc (suc (suc (suc zero))))))))) d low = λ is. cc is
known_bits (suc (suc (suc (suc (suc (suc (suc (suc (suc (suc zero)))))))))) d low = λ is. cc is
known_bits (suc (suc (suc (suc (suc (suc (suc (suc (suc (suc (suc zero))))))))))) d low = λ is. cc is
known_bits (suc (suc (suc (suc (suc (suc (suc (suc (suc (suc (suc (suc k)))))))))))) d low = absurd (omega arith)

abbrev pub AreKnown : Registration → Type 0
AreKnown row = All (Contains known_codes) row.codes

none_for : (code : ℕ) (codes : List ℕ) → All (λ c. c ≢ code) codes → list_any (λ c. c == code) codes ≡ false
none_for code [] all = refl
none_for code (c ∷ codes) all = or_from (c == code) (list_any (λ c. c == code) codes) (ne_eqb c code (All-head (λ c. c ≢ code) c codes all)) (none_for code codes (All-tail (λ c. c ≢ code) c codes all))

none_registered : (code : ℕ) → bit_of code ≡ None → (rows : List Registration) → All AreKnown rows → filter (is_for code) rows ≡ []
none_registered code is [] all = refl
none_registered code is (row ∷ rows) all =
    let far : All (λ c. c ≢ code) row.codes = All-weaker (Contains known_codes) (λ c. c ≢ code) (λ c there same. All-contains (λ code. bit_of code ≢ None) known_codes c known_bits there (ap bit_of same ∙ is)) row.codes (All-head AreKnown row rows all) in
    taken_second (is_for code row) (row ∷ filter (is_for code) rows) (filter (is_for code) rows) (none_for code row.codes far) ∙ none_registered code is rows (All-tail AreKnown row rows all)

pub no_targets : (rows : List Registration) (code : ℕ) → All AreKnown rows → bit_of code ≡ None → targets rows code ≡ []
unfolding trigger_order
no_targets rows code all is = ap (λ (rows : List Registration). map (λ row. row.shelf) (in_order rows)) (none_registered code is rows all)

mapped_at : (f : ℕ → List ℕ) (codes : List ℕ) (at : ℕ) → at < length codes → slice_index_or (map f codes) at [] ≡ f (slice_index_or codes at 0)
mapped_at f [] at low = absurd (omega arith)
mapped_at f (c ∷ codes) zero low = refl
mapped_at f (c ∷ codes) (suc at) low = mapped_at f codes at (omega (arith, low))

built_under : (rows : List Registration) (code : ℕ) → All AreKnown rows → (bit : Option ℕ) → bit_of code ≡ bit → option_map_or (λ bit. slice_index_or (map (targets rows) known_codes) bit []) bit [] ≡ targets rows code
built_under rows code all None is = sym (no_targets rows code all is)
built_under rows code all (Some at) is = mapped_at (targets rows) known_codes at (bit_holds has_bit code event_codes bits_low at is) ∙ ap (targets rows) (bit_holds IsCodeOf code event_codes table_right at is)

pub rows_known : (loaded : Loaded) → All AreKnown (rows_of loaded)
unfolding rows_of
rows_known loaded = All-map AreKnown (λ entry. registration_of entry.0 entry.1) (used_rows loaded.rows) (λ k d low. (codes_known (get_or (used_rows loaded.rows) k d).1.events).known)

pub built_stands : (loaded : Loaded) → StandsFor (map (targets (rows_of loaded)) known_codes) (rows_of loaded)
built_stands loaded code = built_under (rows_of loaded) code (rows_known loaded) (bit_of code) refl

pub list_at : (lists : List (List ℕ)) (code at : ℕ) → bit_of code ≡ Some at → targets_in lists code ≡ slice_index_or lists at []
list_at lists code at is = ap (λ (bit : Option ℕ). option_map_or (λ bit. slice_index_or lists bit []) bit []) is

pub twelve : (rows : List Registration) (l0 l1 l2 l3 l4 l5 l6 l7 l8 l9 l10 l11 : List ℕ)
    → l0 ≡ targets rows MT_CALL → l1 ≡ targets rows CALL_CONNECTED → l2 ≡ targets rows CALL_DISCONNECTED → l3 ≡ targets rows LOCATION_STATUS
    → l4 ≡ targets rows USER_ACTIVITY → l5 ≡ targets rows IDLE_SCREEN → l6 ≡ targets rows LANGUAGE_SELECTION → l7 ≡ targets rows DATA_AVAILABLE
    → l8 ≡ targets rows CHANNEL_STATUS → l9 ≡ targets rows PROFILE_DOWNLOAD → l10 ≡ targets rows STATUS_COMMAND → l11 ≡ targets rows CALL_CONTROL
    → l0 ∷ l1 ∷ l2 ∷ l3 ∷ l4 ∷ l5 ∷ l6 ∷ l7 ∷ l8 ∷ l9 ∷ l10 ∷ l11 ∷ [] ≡ map (targets rows) known_codes
twelve rows l0 l1 l2 l3 l4 l5 l6 l7 l8 l9 l10 l11 e0 e1 e2 e3 e4 e5 e6 e7 e8 e9 e10 e11 = rw (e0, e1, e2, e3, e4, e5, e6, e7, e8, e9, e10, e11) refl
