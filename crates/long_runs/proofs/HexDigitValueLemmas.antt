-- The digits of a byte, and which byte they are of.
use Rattle.std.proofs.Common.{◌≡◌, ◌≢◌, ℕ, ◌/◌, ◌%◌, ◌<◌, ◌≤◌, Bool, true, false, ◌&&◌, slice_index, refl, sym, ap, ◌∙◌, arith, inl, inr, Some, None, ◌==◌}
use Rattle.std.proofs.Math.ListN.{get_or-eq_default}
use Rattle.std.proofs.lemmas.Bool.{cases_lt, eqb-true, eq-eqb, and_parts}
use Rattle.hex.specs.Hex.{hex_digit_value, upper_digits}
use Rattle.hex.proofs.HexLemmas.{IsDigits-upper_digits}

abbrev pub digit : ℕ → ℕ
digit place = slice_index upper_digits place

-- after its last digit the table has the byte 0
none_behind : (place : ℕ) → 16 ≤ place → digit place ≡ 0
none_behind place behind = get_or-eq_default upper_digits 0 behind

-- a byte that is no digit and not 0 stands nowhere in the table
pub no_digit : (byte place : ℕ) → hex_digit_value byte ≡ None → 0 < byte → digit place ≢ byte
no_digit byte place none some = λ e. elim (cases_lt place 16) [
  | inl within ↦ let read = IsDigits-upper_digits place within in absurd (let apart : Some place ≡ None = sym read ∙ ap hex_digit_value e ∙ none in cc)
  | inr behind ↦ absurd (omega (arith, none_behind place behind))
]

-- one digit stands at one place alone
pub digit_place : (at place : ℕ) → at < 16 → 0 < digit at → digit place ≡ digit at → place ≡ at
digit_place at place within some e = elim (cases_lt place 16) [
  | inl inside ↦
      let same : Some place ≡ Some at = sym (IsDigits-upper_digits place inside) ∙ ap hex_digit_value e ∙ IsDigits-upper_digits at within in
      cc
  | inr behind ↦ absurd (omega (arith, none_behind place behind))
]

same_test : (a b : Bool) → (a ≡ true → b ≡ true) → (b ≡ true → a ≡ true) → a ≡ b
same_test true true there back = refl
same_test true false there back = sym (there refl)
same_test false true there back = back refl
same_test false false there back = refl

-- the digits of a byte are these two exactly where it is that byte
pub byte_digits : (code byte : ℕ) → code < 256 → 0 < digit (code / 16) → 0 < digit (code % 16)
    → ((digit (code / 16) == digit (byte / 16)) && (digit (code % 16) == digit (byte % 16))) ≡ (byte == code)
byte_digits code byte within high low =
    same_test ((digit (code / 16) == digit (byte / 16)) && (digit (code % 16) == digit (byte % 16))) (byte == code)
    (λ both.
    let parts = and_parts (digit (code / 16) == digit (byte / 16)) (digit (code % 16) == digit (byte % 16)) both in
    let first : byte / 16 ≡ code / 16 = digit_place (code / 16) (byte / 16) (omega arith) high (sym (eqb-true _ _ parts.0)) in
    let second : byte % 16 ≡ code % 16 = digit_place (code % 16) (byte % 16) (omega arith) low (sym (eqb-true _ _ parts.1)) in
    eq-eqb byte code (omega arith))
    (λ one.
    let same : byte ≡ code = eqb-true byte code one in
    both_are _ _ (eq-eqb _ _ (ap (λ (n : ℕ). digit (n / 16)) (sym same))) (eq-eqb _ _ (ap (λ (n : ℕ). digit (n % 16)) (sym same))))
  where
    both_are : (a b : Bool) → a ≡ true → b ≡ true → (a && b) ≡ true
    both_are true true d e = refl
    both_are true false d e = absurd (cc)
    both_are false b d e = absurd (cc)
