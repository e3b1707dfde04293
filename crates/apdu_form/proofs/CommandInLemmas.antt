-- What bytes are read as, they are.
use Rattle.std.proofs.Common.{◌≡◌, ℕ, ◌+◌, ◌<◌, ◌≤◌, suc, Bool, true, false, List, [], ◌∷◌, ◌++◌, length, take, Option, Some, None, refl, sym, ◌∙◌, ap, arith, ◌==◌, ◌≢◌, ◌%◌, if◌then◌else◌, IfSome, option_map, slice_index, drop, mod-eq_of_lt, drop-cons}
use Rattle.std.proofs.lemmas.Bool.{eqb-true, eqb-false}
use Rattle.std.proofs.lemmas.List.{length-take-le, append-nil, take-append-drop, drop_all}
use Rattle.uicc_types.specs.Told.{AreBytes}
use Rattle.apdu_form.specs.Model.{IsCommand, IsFields, data_field, le_field, ne_of, data_in, fields_in, command_in}

rest_are : (byte : ℕ) (bytes : List ℕ) → AreBytes (byte ∷ bytes) → AreBytes bytes
rest_are byte bytes are k d low = are (suc k) d (omega arith)

-- ---- Le

le_by : (le : ℕ) (b : Bool) → le < 256 → (le == 0) ≡ b → ((if b then 256 else le) % 256 ≡ le) × (1 ≤ (if b then 256 else le)) × ((if b then 256 else le) ≤ 256)
le_by le true low is = let none : le ≡ 0 = eqb-true le 0 is in (sym none, omega arith, omega arith)
le_by le false low is = let some : le ≢ 0 = eqb-false le 0 is in (mod-eq_of_lt low, omega arith, omega arith)

le_spelled : (le : ℕ) → le < 256 → (ne_of le % 256 ≡ le) × (1 ≤ ne_of le) × (ne_of le ≤ 256)
le_spelled le low = le_by le (le == 0) low refl

-- ---- after Lc

-- data alone
alone : (lc : ℕ) (rest : List ℕ) → lc < 256 → 1 ≤ lc → length rest ≡ lc → IsFields (lc ∷ rest) rest None
alone lc [] low some long = absurd (omega arith)
alone lc (first ∷ rest) low some long = record {
  spelling = ap (λ (count : ℕ). count ∷ first ∷ rest) (sym long) ∙ sym (append-nil (length (first ∷ rest) ∷ first ∷ rest));
  short_data = omega arith;
  some_expected = _;
  short_expected = _;
}

-- data and Le
spelled_both : (lc le : ℕ) (body : List ℕ) → le < 256 → 1 ≤ lc → length body ≡ lc → lc ∷ body ++ le ∷ [] ≡ data_field body ++ le_field (Some (ne_of le))
spelled_both lc le [] low some long = absurd (omega arith)
spelled_both lc le (first ∷ body) low some long =
    ap (λ (count : ℕ). count ∷ first ∷ body ++ le ∷ []) (sym long) ∙ ap (λ (byte : ℕ). length (first ∷ body) ∷ first ∷ body ++ byte ∷ []) (sym (le_spelled le low).0)

-- the last of one more
with_last : (lc : ℕ) (rest : List ℕ) → length rest ≡ lc + 1 → rest ≡ take lc rest ++ slice_index rest lc ∷ []
with_last lc rest long =
    let tail : drop lc rest ≡ slice_index rest lc ∷ drop (suc lc) rest = drop-cons rest lc 0 (omega arith) in
    let none : drop (suc lc) rest ≡ [] = drop_all (suc lc) rest (omega arith) in
    sym (take-append-drop lc rest) ∙ ap (λ (l : List ℕ). take lc rest ++ l) (tail ∙ ap (λ (l : List ℕ). slice_index rest lc ∷ l) none)

both : (lc : ℕ) (rest : List ℕ) → AreBytes rest → lc < 256 → 1 ≤ lc → length rest ≡ lc + 1 → IsFields (lc ∷ rest) (take lc rest) (Some (ne_of (slice_index rest lc)))
both lc rest bytes low some long =
    let le : slice_index rest lc < 256 = bytes lc 0 (omega arith) in
    let body : length (take lc rest) ≡ lc = length-take-le lc rest (omega arith) in
    record {
      spelling = ap (λ (l : List ℕ). lc ∷ l) (with_last lc rest long) ∙ spelled_both lc (slice_index rest lc) (take lc rest) le some body;
      short_data = omega arith;
      some_expected = (le_spelled (slice_index rest lc) le).1;
      short_expected = (le_spelled (slice_index rest lc) le).2;
    }

data_is : (lc : ℕ) (rest : List ℕ) → AreBytes rest → lc < 256 → 1 ≤ lc → IfSome (data_in lc rest) (λ field. IsFields (lc ∷ rest) field.0 field.1)
data_is lc rest bytes low some = by_first (length rest == lc) refl where
  by_second : (b : Bool) → (length rest == lc + 1) ≡ b → IfSome {T = List ℕ × Option ℕ} (if b then Some (take lc rest, Some (ne_of (slice_index rest lc))) else None) (λ field. IsFields (lc ∷ rest) field.0 field.1)
  by_second true is = both lc rest bytes low some (eqb-true (length rest) (lc + 1) is)
  by_second false is = _

  by_first : (b : Bool) → (length rest == lc) ≡ b
      → IfSome {T = List ℕ × Option ℕ} (if b then Some (rest, None) else (if length rest == lc + 1 then Some (take lc rest, Some (ne_of (slice_index rest lc))) else None)) (λ field. IsFields (lc ∷ rest) field.0 field.1)
  by_first true is = alone lc rest low some (eqb-true (length rest) lc is)
  by_first false is = by_second (length rest == lc + 1) refl

-- ---- after the header

fields_are : (fields : List ℕ) → AreBytes fields → IfSome (fields_in fields) (λ field. IsFields fields field.0 field.1)
unfolding fields_in
fields_are [] bytes = record { spelling = refl; short_data = omega arith; some_expected = _; short_expected = _ }
fields_are (le ∷ []) bytes =
    let low : le < 256 = bytes 0 0 (omega arith) in
    record {
      spelling = ap (λ (byte : ℕ). byte ∷ []) (sym (le_spelled le low).0);
      short_data = omega arith;
      some_expected = (le_spelled le low).1;
      short_expected = (le_spelled le low).2;
    }
fields_are (lc ∷ next ∷ rest) bytes = by_zero (lc == 0) refl where
  by_zero : (b : Bool) → (lc == 0) ≡ b → IfSome {T = List ℕ × Option ℕ} (if b then None else data_in lc (next ∷ rest)) (λ field. IsFields (lc ∷ next ∷ rest) field.0 field.1)
  by_zero true is = _
  by_zero false is = let some : lc ≢ 0 = eqb-false lc 0 is in data_is lc (next ∷ rest) (rest_are lc (next ∷ rest) bytes) (bytes 0 0 (omega arith)) (omega arith)

-- ---- the command

with_header : (class ins p1 p2 : ℕ) (fields : List ℕ) (field : Option (List ℕ × Option ℕ)) → IfSome field (λ f. IsFields fields f.0 f.1)
    → IfSome (option_map (λ f. record { class = class; ins = ins; p1 = p1; p2 = p2; body = f.0; expected = f.1 }) field) (IsCommand (class ∷ ins ∷ p1 ∷ p2 ∷ fields))
with_header class ins p1 p2 fields None is = _
with_header class ins p1 p2 fields (Some field) is = record {
  spelling = ap (λ (l : List ℕ). class ∷ ins ∷ p1 ∷ p2 ∷ l) is.spelling;
  short_data = is.short_data;
  some_expected = is.some_expected;
  short_expected = is.short_expected;
}

-- what bytes are read as, they are
pub commands_are : (bytes : List ℕ) → AreBytes bytes → IfSome (command_in bytes) (IsCommand bytes)
unfolding command_in
commands_are [] are = _
commands_are (a ∷ []) are = _
commands_are (a ∷ b ∷ []) are = _
commands_are (a ∷ b ∷ c ∷ []) are = _
commands_are (class ∷ ins ∷ p1 ∷ p2 ∷ fields) are =
    let bytes : AreBytes fields = rest_are p2 fields (rest_are p1 (p2 ∷ fields) (rest_are ins (p1 ∷ p2 ∷ fields) (rest_are class (ins ∷ p1 ∷ p2 ∷ fields) are))) in
    with_header class ins p1 p2 fields (fields_in fields) (fields_are fields bytes)
