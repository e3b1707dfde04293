-- Two numbers in bytes, the highest first, added from the last byte on.
use Rattle.std.proofs.Common.{get_or, ◌≡◌, ℕ, zero, suc, ◌+◌, ◌-◌, ◌*◌, ◌/◌, ◌%◌, ◌^◌, ◌<◌, ◌≤◌, Bool, true, false, cond, List, [], ◌∷◌, length, drop, set, refl, sym, ap, ◌∙◌, arith, nat_lt, nat_le, if◌then◌else◌, ltb-true, ltb-false, leb-true, leb-false, lt-ltb, le-ltb}
use Rattle.std.proofs.Math.Seq.{drop-length}
use Rattle.std.proofs.lemmas.List.{drop-set}
use Rattle.std.proofs.Math.Nat.{mul-add-div_right, mul-add-mod_self_right, pow-suc, pow-succ', div-div-eq-div-mul, le-div_iff_mul-le, div-eq_of_lt}
use Rattle.file_model.specs.Records.{number_of, bytes_of}

some_power : (k : ℕ) → zero < 256 ^ k
some_power zero = omega arith
some_power (suc k) = let step : 256 ^ suc k ≡ 256 ^ k * 256 = pow-suc 256 k in omega (arith, step, some_power k)

wider : (m k : ℕ) → m * 256 ^ suc k ≡ (m * 256) * 256 ^ k
wider m k = ap (λ (p : ℕ). m * p) (pow-succ' 256 k) ∙ grind (arith)

-- what is above the bytes doesn't show in them
above_them : (k m n : ℕ) → bytes_of k (m * 256 ^ k + n) ≡ bytes_of k n
above_them zero m n = refl
above_them (suc k) m n =
    let split : m * 256 ^ suc k + n ≡ (m * 256) * 256 ^ k + n = ap (λ (p : ℕ). p + n) (wider m k) in
    let first : (m * 256 ^ suc k + n) / 256 ^ k % 256 ≡ n / 256 ^ k % 256 =
    ap (λ (p : ℕ). p / 256 ^ k % 256) split ∙ ap (λ (p : ℕ). p % 256) (mul-add-div_right (some_power k) (m * 256) n) ∙ mul-add-mod_self_right m 256 (n / 256 ^ k) in
    ap (λ (b : ℕ). b ∷ bytes_of k (m * 256 ^ suc k + n)) first ∙ ap (λ (l : List ℕ). n / 256 ^ k % 256 ∷ l) (ap (bytes_of k) split ∙ above_them k (m * 256) n)

-- a byte more: its sum with the carry, and the bytes behind it
byte_more : (k byte total : ℕ) → bytes_of (suc k) (byte * 256 ^ k + total) ≡ (byte + total / 256 ^ k) % 256 ∷ bytes_of k total
byte_more k byte total =
    ap (λ (b : ℕ). b % 256 ∷ bytes_of k (byte * 256 ^ k + total)) (mul-add-div_right (some_power k) byte total) ∙ ap (λ (l : List ℕ). (byte + total / 256 ^ k) % 256 ∷ l) (above_them k byte total)

-- and what is carried out of it
carried_out : (k byte total : ℕ) → (byte * 256 ^ k + total) / 256 ^ suc k ≡ (byte + total / 256 ^ k) / 256
carried_out k byte total =
    ap (λ (p : ℕ). (byte * 256 ^ k + total) / p) (pow-suc 256 k) ∙ sym (div-div-eq-div-mul (byte * 256 ^ k + total) (256 ^ k) 256) ∙ ap (λ (q : ℕ). q / 256) (mul-add-div_right (some_power k) byte total)

-- ---- the bytes of both from one on

first_byte : (l : List ℕ) (at k : ℕ) → at + suc k ≡ length l → number_of (drop at l) ≡ get_or l at 0 * 256 ^ k + number_of (drop (suc at) l)
first_byte [] zero k long = absurd (omega (arith, long))
first_byte [] (suc at) k long = absurd (omega (arith, long))
first_byte (byte ∷ bytes) zero k long =
    let same : length bytes ≡ k = omega (arith, long) in
    ap (λ (n : ℕ). byte * 256 ^ n + number_of bytes) same
first_byte (byte ∷ bytes) (suc at) k long = first_byte bytes at k (omega (arith, long))

module _ (s a : List ℕ) where
  -- where the second number begins among the bytes of the first
  abbrev pub skipped : ℕ
  skipped = length s - length a

  abbrev pub total_from : ℕ → ℕ
  total_from at = number_of (drop at s) + number_of (drop (at - skipped) a)

  abbrev pub added_at : ℕ → ℕ
  added_at at = if nat_lt at skipped then 0 else get_or a (at - skipped) 0

  by_case : (b : Bool) (at k : ℕ) → nat_lt at skipped ≡ b → length a ≤ length s → at + suc k ≡ length s
      → number_of (drop (at - skipped) a) ≡ cond b 0 (get_or a (at - skipped) 0) * 256 ^ k + number_of (drop (suc at - skipped) a)
  by_case true at k is fits long =
      let low : at < skipped = ltb-true at skipped is in
      let here : at - skipped ≡ 0 = omega (arith, low) in
      let next : suc at - skipped ≡ 0 = omega (arith, low) in
      let same : number_of (drop (at - skipped) a) ≡ number_of (drop (suc at - skipped) a) = ap (λ (n : ℕ). number_of (drop n a)) (here ∙ sym next) in
      omega (arith, same)
  by_case false at k is fits long =
      let high : skipped ≤ at = ltb-false at skipped is in
      let next : suc at - skipped ≡ suc (at - skipped) = omega (arith, high) in
      first_byte a (at - skipped) k (omega (arith, high, fits, long)) ∙ ap (λ (n : ℕ). get_or a (at - skipped) 0 * 256 ^ k + number_of (drop n a)) (sym next)

  both_first : (at k : ℕ) → length a ≤ length s → at + suc k ≡ length s → total_from at ≡ (get_or s at 0 + added_at at) * 256 ^ k + total_from (suc at)
  both_first at k fits long =
      let one : number_of (drop at s) ≡ get_or s at 0 * 256 ^ k + number_of (drop (suc at) s) = first_byte s at k long in
      let other : number_of (drop (at - skipped) a) ≡ added_at at * 256 ^ k + number_of (drop (suc at - skipped) a) = by_case (nat_lt at skipped) at k refl fits long in
      ap (λ (n : ℕ). n + number_of (drop (at - skipped) a)) one ∙ ap (λ (n : ℕ). get_or s at 0 * 256 ^ k + number_of (drop (suc at) s) + n) other ∙ grind (arith)

  -- one byte more was added
  one_added : (at k total : ℕ) → length a ≤ length s → at + suc k ≡ length s → total ≡ get_or s at 0 + added_at at + total_from (suc at) / 256 ^ k
      → bytes_of (suc k) (total_from at) ≡ total % 256 ∷ bytes_of k (total_from (suc at))
  one_added at k total fits long is =
      ap (bytes_of (suc k)) (both_first at k fits long) ∙ byte_more k (get_or s at 0 + added_at at) (total_from (suc at))
      ∙ ap (λ (n : ℕ). n % 256 ∷ bytes_of k (total_from (suc at))) (sym is)

  one_carried : (at k total : ℕ) → length a ≤ length s → at + suc k ≡ length s → total ≡ get_or s at 0 + added_at at + total_from (suc at) / 256 ^ k
      → total_from at / 256 ^ suc k ≡ total / 256
  one_carried at k total fits long is =
      ap (λ (n : ℕ). n / 256 ^ suc k) (both_first at k fits long) ∙ carried_out k (get_or s at 0 + added_at at) (total_from (suc at)) ∙ ap (λ (n : ℕ). n / 256) (sym is)

  -- the bytes of the sum from one on
  abbrev pub HasSum : List ℕ → ℕ → Type 0
  HasSum sum from = drop from sum ≡ bytes_of (length s - from) (total_from from)

  pub none_summed : (sum : List ℕ) → sum ≡ s → HasSum sum (length s)
  none_summed sum same =
      let none : length s - length s ≡ 0 = omega arith in
      ap (λ (l : List ℕ). drop (length s) l) same ∙ drop-length s ∙ sym (ap (λ (n : ℕ). bytes_of n (total_from (length s))) none)

  pub none_carried : length a ≤ length s → 0 ≡ total_from (length s) / 256 ^ (length s - length s)
  none_carried fits =
      let all : length s - skipped ≡ length a = omega (arith, fits) in
      let first : number_of (drop (length s) s) ≡ 0 = ap number_of (drop-length s) in
      let other : number_of (drop (length s - skipped) a) ≡ 0 = ap (λ (n : ℕ). number_of (drop n a)) all ∙ ap number_of (drop-length a) in
      let total : total_from (length s) ≡ 0 = omega (arith, first, other) in
      let width : length s - length s ≡ 0 = omega arith in
      sym (ap (λ (n : ℕ). n / 256 ^ (length s - length s)) total ∙ ap (λ (n : ℕ). 0 / 256 ^ n) width)

  module _ (from at total : ℕ) (is : from ≡ suc at) (fits : length a ≤ length s) (low : from ≤ length s) (sum_is : total ≡ get_or s at 0 + added_at at + total_from from / 256 ^ (length s - from)) where
    place : at + suc (length s - from) ≡ length s
    place = omega (arith, is, low)

    width : length s - at ≡ suc (length s - from)
    width = omega (arith, is, low)

    sum_there : total ≡ get_or s at 0 + added_at at + total_from (suc at) / 256 ^ (length s - from)
    sum_there = sum_is ∙ ap (λ (n : ℕ). get_or s at 0 + added_at at + total_from n / 256 ^ (length s - from)) is

    byte_added : (sum : List ℕ) → length sum ≡ length s → HasSum sum from → HasSum (set sum at (total % 256)) at
    byte_added sum long back =
        drop-set sum at (total % 256) (omega (arith, is, low, long))
        ∙ ap (λ (n : ℕ). total % 256 ∷ drop n sum) (omega (arith, is))
        ∙ ap (λ (l : List ℕ). total % 256 ∷ l) back
        ∙ ap (λ (n : ℕ). total % 256 ∷ bytes_of (length s - from) (total_from n)) is
        ∙ sym (one_added at (length s - from) total fits place sum_there)
        ∙ ap (λ (n : ℕ). bytes_of n (total_from at)) (sym width)

    byte_carried : total / 256 ≡ total_from at / 256 ^ (length s - at)
    byte_carried = sym (ap (λ (n : ℕ). total_from at / 256 ^ n) width ∙ one_carried at (length s - from) total fits place sum_there)

  -- the byte before is added, with what was carried
  module _ (sum : List ℕ) (at first byte carry : ℕ) (fits : length a ≤ length s) (some : 0 < at) (low : at ≤ length s) (long : length sum ≡ length s) (front : first ≡ get_or s (at - 1) 0)
      (carried : carry ≡ total_from at / 256 ^ (length s - at)) (added : byte ≡ added_at (at - 1)) where
    before : at ≡ suc (at - 1)
    before = omega (arith, some)

    abbrev pub total_here : ℕ
    total_here = first + byte + carry

    total_is : total_here ≡ get_or s (at - 1) 0 + added_at (at - 1) + total_from at / 256 ^ (length s - at)
    total_is = omega (arith, front, added, carried)

    pub one_more : HasSum sum at → HasSum (set sum (at - 1) (total_here % 256)) (at - 1)
    one_more back = byte_added at (at - 1) total_here before fits low total_is sum long back

    pub one_more_carried : total_here / 256 ≡ total_from (at - 1) / 256 ^ (length s - (at - 1))
    one_more_carried = byte_carried at (at - 1) total_here before fits low total_is

  -- ---- at the end

  whole : (at : ℕ) → at ≤ 0 → total_from at ≡ number_of s + number_of a
  whole at last =
      let here : at ≡ 0 = omega (arith, last) in
      let there : at - skipped ≡ 0 = omega (arith, last) in
      ap (λ (m : ℕ). number_of (drop m s) + number_of (drop (at - skipped) a)) here ∙ ap (λ (m : ℕ). number_of s + number_of (drop m a)) there

  pub all_summed : (sum : List ℕ) (at : ℕ) → at ≤ 0 → HasSum sum at → sum ≡ bytes_of (length s) (number_of s + number_of a)
  all_summed sum at last back =
      let here : at ≡ 0 = omega (arith, last) in
      let width : length s - at ≡ length s = omega (arith, last) in
      sym (ap (λ (n : ℕ). drop n sum) here) ∙ back ∙ ap (λ (n : ℕ). bytes_of n (total_from at)) width ∙ ap (bytes_of (length s)) (whole at last)

  pub all_carried : (carry at : ℕ) → at ≤ 0 → carry ≡ total_from at / 256 ^ (length s - at) → nat_lt 0 carry ≡ nat_le (256 ^ length s) (number_of s + number_of a)
  all_carried carry at last is =
      let width : length s - at ≡ length s = omega (arith, last) in
      told (256 ^ length s) (number_of s + number_of a) (some_power (length s)) (nat_le (256 ^ length s) (number_of s + number_of a)) refl
      (is ∙ ap (λ (n : ℕ). total_from at / 256 ^ n) width ∙ ap (λ (n : ℕ). n / 256 ^ length s) (whole at last))
    where
      told : (power number : ℕ) → zero < power → (b : Bool) → nat_le power number ≡ b → carry ≡ number / power → nat_lt 0 carry ≡ b
      told power number some true large same =
          let high : 1 ≤ number / power = (le-div_iff_mul-le {k = power} {x = 1} {y = number} some).1 (omega (arith, leb-true power number large)) in
          lt-ltb 0 carry (omega (arith, high, same))
      told power number some false small same =
          let low : number < power = leb-false power number small in
          le-ltb 0 carry (omega (arith, same, div-eq_of_lt low))
