-- Bytes that are looked for by the first of them.
use Rattle.std.proofs.Common.{◌≡◌, ℕ, zero, suc, ◌+◌, ◌-◌, ◌<◌, ◌≤◌, Bool, true, false, List, [], ◌∷◌, length, take, drop, slice_index, refl, sym, ap, ◌∙◌, arith, Some, None, inl, inr, ◌==◌, ◌&&◌, ◌||◌, take-take, length-take-le, length-drop}
use Rattle.std.specs.List.{starts_with}
use Rattle.std.proofs.lemmas.Bool.{eqb-true, eq-eqb, and_right, or_from, ne_eqb, cases_lt}
use lib.Pointwise.{pointwise}
use Rattle.memchr.specs.Find.{IsFirstByte, is_byte}
use Rattle.file_model.specs.Records.{has_within}

-- none of the first bytes is this one
abbrev pub Without : ℕ → ℕ → List ℕ → Type 0
Without byte count held = (k : ℕ) → k < count → is_byte byte (slice_index held k) ≡ true → ⊥

-- more bytes don't stand in fewer
short_start : (wanted held : List ℕ) → length held < length wanted → starts_with (λ a b. a == b) held wanted ≡ false
short_start [] held less = absurd (omega (arith, less))
short_start (first ∷ others) [] less = refl
short_start (first ∷ others) (byte ∷ held) less = and_right (first == byte) _ (short_start others held (omega (arith, less)))

no_length : (n : ℕ) → (suc n == 0) ≡ false
no_length n = ne_eqb (suc n) 0 (λ same. absurd (omega (arith, same)))

short_within : (wanted held : List ℕ) → length held < length wanted → has_within wanted held ≡ false
short_within [] held less = absurd (omega (arith, less))
short_within (first ∷ others) [] less = no_length (length others)
short_within (first ∷ others) (byte ∷ held) less =
    or_from _ _ (short_start (first ∷ others) (byte ∷ held) less) (short_within (first ∷ others) held (omega (arith, less)))

take_nothing : (n : ℕ) → take {A = ℕ} n [] ≡ []
take_nothing zero = refl
take_nothing (suc n) = refl

module _ (first : ℕ) (others : List ℕ) where
  other_byte : (byte : ℕ) (held : List ℕ) → (is_byte first byte ≡ true → ⊥) → has_within (first ∷ others) (byte ∷ held) ≡ has_within (first ∷ others) held
  other_byte byte held not =
      ap (λ (b : Bool). (b && starts_with (λ a b. a == b) held others) || has_within (first ∷ others) held)
      (ne_eqb first byte (λ same. not (eq-eqb byte first (sym same))))

  -- bytes before the first one like it are passed over
  passed_over : (count room : ℕ) (held : List ℕ) → count ≤ room → Without first count held
      → has_within (first ∷ others) (take room held) ≡ has_within (first ∷ others) (take (room - count) (drop count held))
  passed_over zero room held within without = ap (λ (n : ℕ). has_within (first ∷ others) (take n held)) (omega arith)
  passed_over (suc count) zero held within without = absurd (omega (arith, within))
  passed_over (suc count) (suc room) [] within without = ap (has_within (first ∷ others)) (sym (take_nothing (suc room - suc count)))
  passed_over (suc count) (suc room) (byte ∷ held) within without =
      other_byte byte (take room held) (without 0 (omega arith))
      ∙ passed_over count room held (omega (arith, within)) (λ k below. without (suc k) (omega (arith, below)))
      ∙ ap (λ (n : ℕ). has_within (first ∷ others) (take n (drop count held))) (omega arith)

  nothing_left : (held : List ℕ) (n : ℕ) → n ≡ 0 → has_within (first ∷ others) (take n held) ≡ false
  nothing_left held n none = ap (λ (n : ℕ). has_within (first ∷ others) (take n held)) none ∙ no_length (length others)

  pub none_within : (room : ℕ) (held : List ℕ) → room ≤ length held → IsFirstByte (is_byte first) held None
      → has_within (first ∷ others) (take room held) ≡ false
  none_within room held within none =
      passed_over room room held (omega arith) (λ k below. none k (omega arith) (omega (arith, below, within)))
      ∙ nothing_left (drop room held) (room - room) (omega arith)

  nothing_there : (room : ℕ) (held : List ℕ) → ((k : ℕ) → k < length held → is_byte first (slice_index held k) ≡ true → ⊥) → has_within (first ∷ others) (take room held) ≡ false
  nothing_there zero held without = no_length (length others)
  nothing_there (suc room) [] without = no_length (length others)
  nothing_there (suc room) (byte ∷ held) without =
      other_byte byte (take room held) (without 0 (omega arith)) ∙ nothing_there room held (λ k below. without (suc k) (omega (arith, below)))

  -- nor anywhere after it
  pub nowhere : (held : List ℕ) → ((k : ℕ) → k < length held → is_byte first (slice_index held k) ≡ true → ⊥) → (at width : ℕ) → has_within (first ∷ others) (take width (drop at held)) ≡ false
  nowhere held without zero width = nothing_there width held without
  nowhere [] without (suc at) width = nothing_there width [] without
  nowhere (byte ∷ held) without (suc at) width = nowhere held (λ k below. without (suc k) (omega (arith, below))) at width

  -- where the first one stands too far behind for the others to have room
  pub no_room_within : (room : ℕ) (held : List ℕ) (at : ℕ) → room ≤ length held → IsFirstByte (is_byte first) held (Some at)
      → room - at ≤ length others → has_within (first ∷ others) (take room held) ≡ false
  no_room_within room held at within found less =
      elim (cases_lt at room) [
        | inl inside ↦
            passed_over at room held (omega (arith, inside)) (λ k below. found.0.before k (omega arith) below)
            ∙ short_within (first ∷ others) (take (room - at) (drop at held)) (omega (arith, less, inside, length-take-le (room - at) (drop at held) (omega (arith, within, length-drop at held))))
        | inr outside ↦
            passed_over room room held (omega arith) (λ k below. found.0.before k (omega arith) (omega (arith, below, outside)))
            ∙ nothing_left (drop room held) (room - room) (omega arith)
      ]

  begun : (byte room : ℕ) (held : List ℕ) → is_byte first byte ≡ true → length others ≤ room
      → has_within (first ∷ others) (byte ∷ take room held) ≡ (starts_with (λ a b. a == b) held others || has_within (first ∷ others) (take room held))
  begun byte room held same fits =
      ap (λ (b : Bool). (b && starts_with (λ a b. a == b) (take room held) others) || has_within (first ∷ others) (take room held))
      (eq-eqb first byte (sym (eqb-true byte first same)))
      ∙ ap (λ (l : List ℕ). pointwise (λ a b. a == b) others l || has_within (first ∷ others) (take room held)) (take-take (length others) room held fits)

  found_within : (at room : ℕ) (held : List ℕ) → at + 1 + length others ≤ room → room ≤ length held → Without first at held → is_byte first (slice_index held at) ≡ true
      → has_within (first ∷ others) (take room held) ≡ (starts_with (λ a b. a == b) (drop (suc at) held) others || has_within (first ∷ others) (take (room - suc at) (drop (suc at) held)))
  found_within at zero held fits within without is = absurd (omega (arith, fits))
  found_within at (suc room) [] fits within without is = absurd (omega (arith, within))
  found_within zero (suc room) (byte ∷ held) fits within without is = begun byte room held is (omega (arith, fits)) ∙ ap (λ (n : ℕ). starts_with (λ a b. a == b) held others || has_within (first ∷ others) (take n held)) (omega arith)
  found_within (suc at) (suc room) (byte ∷ held) fits within without is =
      other_byte byte (take room held) (without 0 (omega arith))
      ∙ found_within at room held (omega (arith, fits)) (omega (arith, within)) (λ k below. without (suc k) (omega (arith, below))) is
      ∙ ap (λ (n : ℕ). starts_with (λ a b. a == b) (drop (suc at) held) others || has_within (first ∷ others) (take n (drop (suc at) held))) (omega arith)

  -- where it stands, the others follow, or all stand behind it
  pub looked_at : (room : ℕ) (held : List ℕ) (at : ℕ) → room ≤ length held → IsFirstByte (is_byte first) held (Some at) → length others < room - at
      → has_within (first ∷ others) (take room held) ≡ (starts_with (λ a b. a == b) (drop (at + 1) held) others || has_within (first ∷ others) (take (room - (at + 1)) (drop (at + 1) held)))
  looked_at room held at within found least =
      let fits : at + 1 + length others ≤ room = omega (arith, least) in
      let next : suc at ≡ at + 1 = omega arith in
      found_within at room held fits within (λ k below. found.0.before k (omega arith) below) found.1
      ∙ ap (λ (n : ℕ). starts_with (λ a b. a == b) (drop n held) others || has_within (first ∷ others) (take (room - n) (drop n held))) next
