-- Bytes that are filled up to a width.
use Rattle.std.proofs.Common.{get_or, ◌≡◌, ℕ, ◌-◌, ◌≤◌, ◌<◌, List, ◌++◌, length, take, min, replicate, refl, sym, ◌∙◌, ap, ⊎_elim, arith, length-append, append_assoc}
use Rattle.std.proofs.lemmas.List.{length-take, length-replicate, get_or-replicate, get_or-take, get_or_append_left, get_or-append_right}
use Rattle.std.proofs.lemmas.Grind.{same_number_lists}
use Rattle.std.proofs.lemmas.Bool.{cases_lt}
use Rattle.layout_entries.proofs.SpellingLemmas.{length-padded}
use Rattle.layout_entries.specs.Spelling.{padded}

module _ (width shown : ℕ) (bytes : List ℕ) (short : width ≤ 32) (is : shown ≡ min (length bytes) width) where
  abbrev zeros : List ℕ
  zeros = take (width - shown) (replicate 32 0)

  front : length (take shown bytes) ≡ shown
  front = omega (arith, length-take shown bytes)

  back : length zeros ≡ width - shown
  back = omega (arith, length-take (width - shown) (replicate {A = ℕ} 32 0), length-replicate {A = ℕ} 32 0)

  at_front : (k : ℕ) → k < shown → get_or (take shown bytes ++ zeros) k 0 ≡ get_or (padded width bytes) k 0
  at_front k low =
      get_or_append_left (take shown bytes) zeros 0 k (omega (arith, front)) ∙ get_or-take shown bytes k 0 low
      ∙ sym (get_or-take width (bytes ++ replicate width 0) k 0 (omega arith) ∙ get_or_append_left bytes (replicate width 0) 0 k (omega arith))

  at_back : (k : ℕ) → shown ≤ k → k < width → get_or (take shown bytes ++ zeros) k 0 ≡ get_or (padded width bytes) k 0
  at_back k high below =
      let zero_byte : ℕ = 0 in
      get_or-append_right (take shown bytes) zeros shown k 0 front high ∙ get_or-take (width - shown) (replicate 32 0) (k - shown) 0 (omega arith)
      ∙ get_or-replicate 32 (k - shown) zero_byte 0 (omega arith)
      ∙ sym (get_or-take width (bytes ++ replicate width 0) k 0 below ∙ get_or-append_right bytes (replicate width 0) (length bytes) k 0 refl (omega arith)
      ∙ get_or-replicate width (k - length bytes) zero_byte 0 (omega arith))

  -- so many bytes as are there, and zeros up to the width
  pub padded_by_parts : take shown bytes ++ zeros ≡ padded width bytes
  padded_by_parts =
      same_number_lists _ _ (length-append (take shown bytes) zeros ∙ omega (arith, front, back) ∙ sym (length-padded width bytes))
      (λ k h. ⊎_elim (at_front k) (λ high. at_back k high (omega (arith, length-append (take shown bytes) zeros, front, back))) (cases_lt k shown))

pub put_by_parts : (width shown : ℕ) (bytes before mid after : List ℕ) → width ≤ 32 → shown ≡ min (length bytes) width
    → mid ≡ before ++ take shown bytes → after ≡ mid ++ take (width - shown) (replicate 32 0) → after ≡ before ++ padded width bytes
put_by_parts width shown bytes before mid after short is first second =
    second ∙ ap (λ (l : List ℕ). l ++ take (width - shown) (replicate 32 0)) first ∙ append_assoc before (take shown bytes) (take (width - shown) (replicate 32 0))
    ∙ ap (λ (l : List ℕ). before ++ l) (padded_by_parts width shown bytes short is)
