-- What the codes of a row's events become where one bit is set or cleared.
use Rattle.std.proofs.Common.{suc, get_or, ◌≡◌, ℕ, ◌+◌, ◌-◌, ◌*◌, ◌/◌, ◌%◌, ◌^◌, ◌<◌, ◌≤◌, bit_and, bit_or, subst, ◌⊎◌, Bool, true, false, cond, List, [], ◌∷◌, map, refl, sym, ◌∙◌, ap, ⊎_elim, inl, inr, arith, Some, None, ◌==◌, ◌&&◌, ◌||◌, nat_lt, not, filter, find, Contains, Option, option_map, pow_mono}
use Rattle.std.specs.Int.{w16, bit_at}
use Rattle.std.specs.List.{list_any, list_all, position_from}
use Rattle.std.proofs.lemmas.Bool.{cases_Bool, cases_eq, ne_eqb, eqb-true, eq-eqb, leb-true, and_right}
use Rattle.std.proofs.lemmas.List.{get_or_default}
use Rattle.std.proofs.lemmas.List.Elements.{All-contains}
use Rattle.std.proofs.lemmas.List.Sums.{AllPass-from_list_all}
use Rattle.std.proofs.lemmas.List.Folds.{list_any_none, list_any_at}
use Rattle.std.proofs.lemmas.Nat.{or_lt}
use Rattle.std.proofs.lemmas.Nat.Bits.{bit_at_set_same, bit_at_set_other, bit_at_clear_same, bit_at_clear_other, shr_and_one}
use Rattle.list_laws.proofs.CondLemmas.{mapped_Some}
use Rattle.list_laws.proofs.FindLemmas.{find_Some}
use Rattle.card_state.specs.Kinds.{event_codes, codes_of}
use Rattle.card_state.specs.Sections.{is_code, sorted_codes}
use Rattle.card_state.proofs.BitsForLemmas.{pairs}
use Rattle.card_state.specs.Events.{bit_of, SetsBit, ClearsBit, SettingAddsCode, ClearingRemovesCode}

abbrev Event : Type 0
Event = ℕ × ℕ

abbrev is_set : ℕ → Event → Bool
is_set bits event = bit_at bits event.1 == 1

-- ---- conditions and lists

and_true : (x y : Bool) → y ≡ true → (x && y) ≡ x
and_true true y is = is
and_true false y is = refl

same_pair : (e : Event) (code bit : ℕ) → e.0 ≡ code → e.1 ≡ bit → e ≡ (code, bit)
same_pair e code bit first second = rw (sym first, sym second) refl

same_filter : {X : Type 0} (p q : X → Bool) (xs : List X) → ((x : X) → Contains xs x → p x ≡ q x) → filter p xs ≡ filter q xs
same_filter p q [] each = refl
same_filter p q (x ∷ xs) each =
    let rest : filter p xs ≡ filter q xs = same_filter p q xs (λ y there. each y (suc there.0, omega (arith, there.1), there.2)) in
    ap (λ b. cond b (x ∷ filter p xs) (filter p xs)) (each x (0, omega arith, refl)) ∙ ap (λ l. cond (q x) (x ∷ l) l) rest

any_step : (b : Bool) (e : Event) (rest : List Event) (code : ℕ) (all : Bool) → list_any (λ other. other == code) (map (λ a. a.0) rest) ≡ all
    → list_any (λ other. other == code) (map (λ a. a.0) (cond b (e ∷ rest) rest)) ≡ ((b && e.0 == code) || all)
any_step true e rest code all is = ap (λ b. e.0 == code || b) is
any_step false e rest code all is = is

any_of_codes : (p : Event → Bool) (events : List Event) (code : ℕ) → list_any (λ other. other == code) (map (λ e. e.0) (filter p events)) ≡ list_any (λ e. p e && e.0 == code) events
any_of_codes p [] code = refl
any_of_codes p (e ∷ events) code = any_step (p e) e (filter p events) code (list_any (λ a. p a && a.0 == code) events) (any_of_codes p events code)

filter_step : (b kept : Bool) (q : ℕ → Bool) (e : Event) (rest target : List Event) → q e.0 ≡ kept → filter q (map (λ a. a.0) rest) ≡ map (λ a. a.0) target
    → filter q (map (λ a. a.0) (cond b (e ∷ rest) rest)) ≡ map (λ a. a.0) (cond (b && kept) (e ∷ target) target)
filter_step false kept q e rest target test is = is
filter_step true true q e rest target test is = ap (λ b. cond b (e.0 ∷ filter q (map (λ (a : Event). a.0) rest)) (filter q (map (λ (a : Event). a.0) rest))) test ∙ ap (λ l. e.0 ∷ l) is
filter_step true false q e rest target test is = ap (λ b. cond b (e.0 ∷ filter q (map (λ (a : Event). a.0) rest)) (filter q (map (λ (a : Event). a.0) rest))) test ∙ is

filter_of_codes : (p : Event → Bool) (q : ℕ → Bool) (events : List Event) → filter q (map (λ e. e.0) (filter p events)) ≡ map (λ e. e.0) (filter (λ e. p e && q e.0) events)
filter_of_codes p q [] = refl
filter_of_codes p q (e ∷ events) = filter_step (p e) (q e.0) q e (filter p events) (filter (λ a. p a && q a.0) events) refl (filter_of_codes p q events)

-- ---- the table

-- a code has one bit, and a bit one code
abbrev is_alike : Event → Event → Bool
is_alike a b = cond (a.0 == b.0) (a.1 == b.1) (not (a.1 == b.1))

all_alike : list_all (λ a. list_all (is_alike a) event_codes) event_codes ≡ true
all_alike = refl

low_bits : list_all (λ e. nat_lt e.1 12) event_codes ≡ true
low_bits = refl

alike : (a b : Event) → Contains event_codes a → Contains event_codes b → (a.0 == b.0) ≡ (a.1 == b.1)
alike a b first second =
    let of_a : list_all (is_alike a) event_codes ≡ true =
    All-contains (λ (e : Event). list_all (is_alike e) event_codes ≡ true) event_codes a (AllPass-from_list_all (λ e. list_all (is_alike e) event_codes) event_codes all_alike) first in
    same (a.0 == b.0) (a.1 == b.1) (All-contains (λ (e : Event). is_alike a e ≡ true) event_codes b (AllPass-from_list_all (is_alike a) event_codes of_a) second) where
      same : (x y : Bool) → cond x y (not y) ≡ true → x ≡ y
      same true y is = sym is
      same false true is = cc is
      same false false is = refl

pub low_bit : (e : Event) → Contains event_codes e → e.1 < 12
low_bit e there = leb-true _ _ (All-contains (λ (a : Event). nat_lt a.1 12 ≡ true) event_codes e (AllPass-from_list_all (λ a. nat_lt a.1 12) event_codes low_bits) there)

-- whether a code of the table is among those of these bits
pub told : (bits : ℕ) (e : Event) → Contains event_codes e → list_any (λ other. other == e.0) (codes_of bits) ≡ is_set bits e
told bits e there = any_of_codes (is_set bits) event_codes e.0 ∙ step (cases_Bool (is_set bits e)) where
  step : (is_set bits e ≡ true) ⊎ (is_set bits e ≡ false) → list_any (λ a. is_set bits a && a.0 == e.0) event_codes ≡ is_set bits e
  step (inl set) =
      list_any_at (λ a. is_set bits a && a.0 == e.0) event_codes there.0 e there.1
      (ap (λ (a : Event). is_set bits a && a.0 == e.0) there.2 ∙ ap (λ b. b && e.0 == e.0) set ∙ eq-eqb e.0 e.0 refl)
      ∙ sym set
  step (inr clear) =
      list_any_none (λ a. is_set bits a && a.0 == e.0) event_codes
      (λ k d low.
      let a : Event = get_or event_codes k d in
      let here : Contains event_codes a = (k, low, get_or_default event_codes k a d low) in
      ⊎_elim {C = (is_set bits a && a.0 == e.0) ≡ false}
      (λ same. ap (λ n. bit_at bits n == 1 && a.0 == e.0) (eqb-true a.1 e.1 (sym (alike a e here there) ∙ same)) ∙ ap (λ b. b && a.0 == e.0) clear)
      (λ other. and_right (is_set bits a) (a.0 == e.0) other)
      (cases_Bool (a.0 == e.0)))
      ∙ sym clear

-- ---- one bit

-- for each event of the table, whether it is among these and one more
added : (code bit old new : ℕ) → Contains event_codes (code, bit) → SetsBit bit old new → (e : Event) → Contains event_codes e
    → is_set new e ≡ list_any (λ other. other == e.0) (code ∷ codes_of old)
added code bit old new known sets e there =
    ⊎_elim {C = is_set new e ≡ (code == e.0 || list_any (λ other. other == e.0) (codes_of old))}
    (λ same.
    ap (λ n. bit_at new n == 1) same ∙ ap (λ n. n == 1) sets.set
    ∙ sym (ap (λ b. b || list_any (λ other. other == e.0) (codes_of old)) (alike (code, bit) e known there ∙ eq-eqb bit e.1 (sym same))))
    (λ other.
    ap (λ n. n == 1) (sets.others e.1 other) ∙ sym (told old e there)
    ∙ sym (ap (λ b. b || list_any (λ other. other == e.0) (codes_of old)) (alike (code, bit) e known there ∙ ne_eqb bit e.1 (λ is. other (sym is)))))
    (cases_eq e.1 bit)

pub adds_code : SettingAddsCode
adds_code code bit old new known sets =
    ap (λ l. map (λ (e : Event). e.0) l) (same_filter (is_set new) (λ e. list_any (λ other. other == e.0) (code ∷ codes_of old)) event_codes (added code bit old new known sets))

left : (code bit old new : ℕ) → Contains event_codes (code, bit) → ClearsBit bit old new → (e : Event) → Contains event_codes e
    → is_set new e ≡ (is_set old e && not (e.0 == code))
left code bit old new known clears e there =
    ⊎_elim {C = is_set new e ≡ (is_set old e && not (e.0 == code))}
    (λ same.
    ap (λ n. bit_at new n == 1) same ∙ ap (λ n. n == 1) clears.clear
    ∙ sym (and_right (is_set old e) (not (e.0 == code)) (ap not (alike e (code, bit) there known ∙ eq-eqb e.1 bit same))))
    (λ other.
    ap (λ n. n == 1) (clears.others e.1 (low_bit e there) other)
    ∙ sym (and_true (is_set old e) (not (e.0 == code)) (ap not (alike e (code, bit) there known ∙ ne_eqb e.1 bit other))))
    (cases_eq e.1 bit)

pub removes_code : ClearingRemovesCode
removes_code code bit old new known clears =
    ap (λ l. map (λ (e : Event). e.0) l) (same_filter (is_set new) (λ e. is_set old e && not (e.0 == code)) event_codes (left code bit old new known clears))
    ∙ sym (filter_of_codes (is_set old) (λ other. not (other == code)) event_codes)

-- ---- a code that is not in the table

not_here : (code : ℕ) → is_code code ≡ false → (e : Event) → Contains event_codes e → (e.0 == code) ≡ false
not_here code unknown e there =
    ⊎_elim {C = (e.0 == code) ≡ false}
    (λ is. cc (sym unknown ∙ list_any_at (λ (a : Event). a.0 == code) event_codes there.0 e there.1 (ap (λ (a : Event). a.0 == code) there.2 ∙ is)))
    (λ is. is) (cases_Bool (e.0 == code))

pub nothing_added : (code bits : ℕ) → is_code code ≡ false → codes_of bits ≡ sorted_codes (code ∷ codes_of bits)
nothing_added code bits unknown =
    ap (λ l. map (λ (e : Event). e.0) l)
    (same_filter (is_set bits) (λ e. list_any (λ other. other == e.0) (code ∷ codes_of bits)) event_codes
    (λ e there. sym (told bits e there) ∙ sym (ap (λ b. b || list_any (λ other. other == e.0) (codes_of bits)) (ne_eqb code e.0 (λ same. cc (sym (not_here code unknown e there) ∙ eq-eqb e.0 code (sym same)))))))

pub nothing_removed : (code bits : ℕ) → is_code code ≡ false → codes_of bits ≡ filter (λ other. not (other == code)) (codes_of bits)
nothing_removed code bits unknown =
    ap (λ l. map (λ (e : Event). e.0) l)
    (same_filter (is_set bits) (λ e. is_set bits e && not (e.0 == code)) event_codes (λ e there. sym (and_true (is_set bits e) (not (e.0 == code)) (ap not (not_here code unknown e there)))))
    ∙ sym (filter_of_codes (is_set bits) (λ other. not (other == code)) event_codes)

pub not_told : (code bits : ℕ) → is_code code ≡ false → list_any (λ other. other == code) (codes_of bits) ≡ false
not_told code bits unknown =
    any_of_codes (is_set bits) event_codes code
    ∙ list_any_none (λ a. is_set bits a && a.0 == code) event_codes
    (λ k d low.
    let a : Event = get_or event_codes k d in
    and_right (is_set bits a) (a.0 == code) (not_here code unknown a (k, low, get_or_default event_codes k a d low)))

-- ---- the bit of a code

none_step : {X : Type 0} (p : X → Bool) (x : X) (xs : List X) → (find p xs ≡ None → list_any p xs ≡ false) → (p x ≡ true) ⊎ (p x ≡ false) → find p (x ∷ xs) ≡ None → list_any p (x ∷ xs) ≡ false
none_step p x xs rest (inl passes) is = cc (sym (ap (λ b. cond b (Some x) (find p xs)) passes) ∙ is)
none_step p x xs rest (inr fails) is = ap (λ b. b || list_any p xs) fails ∙ rest (sym (ap (λ b. cond b (Some x) (find p xs)) fails) ∙ is)

none_there : {X : Type 0} (p : X → Bool) (xs : List X) → find p xs ≡ None → list_any p xs ≡ false
none_there p [] is = refl
none_there p (x ∷ xs) is = none_step p x xs (none_there p xs) (cases_Bool (p x)) is

pub bit_there : (code bit : ℕ) → bit_of code ≡ Some bit → Contains event_codes (code, bit)
bit_there code bit is =
    let some = mapped_Some (λ (e : Event). e.1) (find (λ e. e.0 == code) event_codes) bit is in
    let there = find_Some (λ (e : Event). e.0 == code) event_codes some.0 some.1 in
    let same : some.0 ≡ (code, bit) = same_pair some.0 code bit (eqb-true some.0.0 code there.1) some.2 in
    subst (Contains event_codes) same there.0

pub no_bit : (code : ℕ) → bit_of code ≡ None → is_code code ≡ false
no_bit code is = none_there (λ (e : Event). e.0 == code) event_codes (none (find (λ e. e.0 == code) event_codes) is) where
  none : (o : Option Event) → option_map (λ e. e.1) o ≡ None → o ≡ None
  none None is = refl
  none (Some e) is = cc is

place_step : (b : Bool) (x i : ℕ) (place : Option ℕ) (rest : Option Event) → place ≡ option_map (λ e. e.1) rest → cond b (Some i) place ≡ option_map (λ e. e.1) (cond b (Some (x, i)) rest)
place_step true x i place rest is = refl
place_step false x i place rest is = is

pub same_place : (code i : ℕ) (table : List ℕ) → position_from (λ other. other == code) i table ≡ option_map (λ e. e.1) (find (λ e. e.0 == code) (pairs i table))
same_place code i [] = refl
same_place code i (x ∷ table) = place_step (x == code) x i (position_from (λ other. other == code) (i + 1) table) (find (λ e. e.0 == code) (pairs (i + 1) table)) (same_place code (i + 1) table)

-- ---- the bits as the code sets and clears them

module _ (code bit bits : ℕ) (there : Contains event_codes (code, bit)) where
  low : bit < 16
  low = let few : bit < 12 = low_bit (code, bit) there in omega arith

  pub set_here : SetsBit bit bits (bit_or bits (1 * 2 ^ bit % 65536))
  set_here = record { set = bit_at_set_same w16 bits bit low; others = bit_at_set_other w16 bits bit low }

  pub clear_here : ClearsBit bit bits (bit_and bits (65535 - 1 * 2 ^ bit % 65536))
  clear_here = record { clear = bit_at_clear_same w16 bits bit low; others = λ other few apart. bit_at_clear_other w16 bits bit low other (omega arith) apart }

  pub still_low : bits < 4096 → bit_or bits (1 * 2 ^ bit % 65536) < 4096
  still_low few =
      let least : bit < 12 = low_bit (code, bit) there in
      let most : 2 ^ bit ≤ 2 ^ 11 = pow_mono {i = bit} {j = 11} (omega arith) in
      let same : 1 * 2 ^ bit % 65536 ≡ 2 ^ bit = omega arith in
      or_lt 12 bits (1 * 2 ^ bit % 65536) few (omega arith)

pub shifted : (bits bit : ℕ) → (bit_and (bits / 2 ^ bit) 1 == 1) ≡ is_set bits (0, bit)
shifted bits bit = ap (λ n. n == 1) (shr_and_one bits bit)
