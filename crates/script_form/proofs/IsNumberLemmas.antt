-- Words of decimal digits.
use Rattle.std.proofs.Common.{◌≡◌, ℕ, ◌+◌, ◌*◌, ◌-◌, ◌^◌, ◌<◌, ◌≤◌, true, false, List, [], ◌∷◌, length, get_or, refl, sym, ap, ◌∙◌, arith, lit<, lit≤, add-one, inl, inr, codes, decimal, Option, Some, None, IsSome, IfSome, ◌↔◌}
use Rattle.std.proofs.lemmas.Bool.{cases_lt}
use Rattle.std.specs.Char.{digit_value, is_ascii_digit}
use Rattle.std.specs.Str.Parse.{AllDigits, digits_value}
use Rattle.std.proofs.Math.Nat.{pow-le-pow_right, pow-suc}
use Rattle.std.proofs.lemmas.Bool.Decides.{nat_tests}
use Rattle.std.proofs.lemmas.Int.Digits.{digits_value-lt}
use Rattle.std.proofs.lemmas.Str.Parse.{IsNumeralModel, digit_at, numerals_by_value, tells_digits}
use Rattle.std.proofs.lemmas.Fmt.{decimal-digits_value, decimal_digit, decimal_injective, decimal_nonempty, digits_decimal, first_decimal, length-decimal-le}
use Rattle.script_form.specs.Reads.{IsOnly, Reads}
use Rattle.script_form.specs.Values.{IsNumber, IsShort}

-- ---- digits, one after the other

pub digit_read : (c : ℕ) → is_ascii_digit c ≡ true → (48 ≤ c) × (c ≤ 57) × (digit_value c ≡ c - 48)
digit_read c e = (grind (arith, nat_tests), grind (arith, nat_tests), grind (arith, nat_tests))

-- among digits there is nothing else
pub not_digits : (ds : List ℕ) (i : ℕ) → AllDigits 10 ds → i < length ds → is_ascii_digit (get_or ds i 0) ≡ false → ⊥
not_digits ds i all lt e =
    let at = digit_at ds i all lt in
    let low : 48 ≤ get_or ds i 0 = at.0 in
    let high : get_or ds i 0 ≤ 57 = at.1 in
    grind (arith, nat_tests)

pub pow_more : (i : ℕ) → 10 ^ (i + 1) ≡ 10 ^ i * 10
pow_more i = rw (add-one, pow-suc)

pub below_pow : (n i k : ℕ) → n < 10 ^ i → i ≤ k → n < 10 ^ k
below_pow n i k small le = let wide = pow-le-pow_right {n = 10} (lit< tt) {i = i} {j = k} le in omega arith

-- ---- the words of numbers

own : IsNumeralModel (AllDigits 10) (digits_value 10)
own = numerals_by_value _ tells_digits

-- a word of at most nine digits, without a leading zero
pub record IsNumeral (word : List ℕ) : Type 0 where
  pub some : 0 < length word
  pub few : length word ≤ 9
  pub no_zero : get_or word 0 0 ≡ 48 → length word ≡ 1
  pub digits : AllDigits 10 word

-- a zero in front is the number 0
zero_alone : (number : ℕ) → number < 2 ^ 64 → get_or (decimal number) 0 0 ≡ 48 → length (decimal number) ≡ 1
zero_alone number small e =
    elim (cases_lt 0 number) [
      | inl some ↦ absurd (omega (arith, first_decimal number some small))
      | inr none ↦
          let zero : number ≡ 0 = omega arith in
          rw zero (ap length (decimal_digit 0 (lit< tt)))
    ]

-- what the word of a number looks like
pub numeral : (least most : ℕ) (word : List ℕ) (number : ℕ) → most < 10 ^ 9 → IsNumber least most word number → IsNumeral word
numeral least most word number small n = rw n.digits record {
  some = decimal_nonempty number (omega arith);
  few = length-decimal-le 9 number (omega arith) (omega arith) (omega arith);
  no_zero = λ e. zero_alone number (omega arith) e;
  digits = digits_decimal own number (omega arith);
}

-- and such a word is that of the number that its digits write
pub numeral_is : (word : List ℕ) → IsNumeral word → IsOnly (IsNumber 0 999999999 word) (digits_value 10 word)
numeral_is word n =
    let below = digits_value-lt 10 word n.digits in
    let small = below_pow (digits_value 10 word) (length word) 9 below n.few in
    let spelled = decimal-digits_value own word n.digits n.some n.no_zero (omega arith) in
    record {
      so = record { digits = sym spelled; above = omega arith; below = omega arith };
      only = λ other o. decimal_injective other (digits_value 10 word) (omega (arith, o.below)) (omega arith) (sym o.digits ∙ sym spelled);
    }

-- the word `0`
pub zero_read : (word : List ℕ) → get_or word 0 0 ≡ 48 → length word ≡ 1 → IsOnly (IsNumber 0 999999999 word) 0
zero_read [] e one = absurd (omega arith)
zero_read (digit ∷ []) e one =
    let zero : digit ≡ 48 = e in
    rw zero (numeral_is (48 ∷ []) record { some = lit< tt; few = lit≤ tt; no_zero = λ _. refl; digits = (lit< tt, tt) })
zero_read (digit ∷ next ∷ others) e one = absurd (omega arith)

-- a word of digits that is not the digit 0 alone, against what its digits were found to write
pub number_read : (word : List ℕ) (r : Option ℕ) → 0 < length word → length word ≤ 9 → (get_or word 0 0 ≡ 48 → ⊥)
    → IsSome r ↔ AllDigits 10 word → IfSome r (λ number. number ≡ digits_value 10 word) → Reads (IsNumber 0 999999999 word) r
number_read word (Some number) some few first all value =
    rw value (numeral_is word record { some = some; few = few; no_zero = λ e. absurd (first e); digits = all.0 refl })
number_read word None some few first all value = λ number n.
    let none = all.1 (numeral 0 999999999 word number (omega arith) n).digits in
    cc

-- a dash is no number
pub dash_no_number : (least most number : ℕ) → most < 10 ^ 9 → IsNumber least most (codes "-") number → ⊥
dash_no_number least most number small n =
    let digits = (numeral least most (codes "-") number small n).digits in
    let low : 48 ≤ 45 = (digit_at (codes "-") 0 digits (lit< tt)).0 in
    omega arith

-- and so it says that there is no short identifier
no_short : (short : Option ℕ) → IsShort (codes "-") short → short ≡ None
no_short None s = refl
no_short (Some short) s = absurd (dash_no_number 1 30 short (lit< tt) s)

pub dash_short : (word : List ℕ) → 1 ≤ length word → length word < 2 → get_or word 0 0 ≡ 45 → IsOnly (IsShort word) None
dash_short [] some few first = absurd (omega (arith, some))
dash_short (byte ∷ []) some few first =
    let dash : byte ≡ 45 = first in
    rw dash (let only : IsOnly (IsShort (codes "-")) None = record { so = refl; only = no_short } in only)
dash_short (byte ∷ next ∷ others) some few first = absurd (omega (arith, few))
