-- The bits of the codes that bits stand for are those bits.
use Rattle.std.proofs.Common.{◌≡◌, refl, sym, ap, ◌∙◌, ℕ, zero, suc, ◌+◌, ◌*◌, ◌/◌, ◌%◌, ◌^◌, ◌<◌, ◌==◌, Bool, true, false, ◌&&◌, ◌||◌, cond, List, [], ◌∷◌, length, map, filter, arith, add-zero}
use Rattle.std.specs.Int.{bit_at, from_bool}
use Rattle.std.specs.List.{list_any}
use Rattle.std.proofs.lemmas.Nat.Bits.{bit_at-lt, bit_at-suc, bit_at_lowest, same_from_bits_below}
use Rattle.card_state.specs.Events.{bits_for}
use Rattle.card_state.specs.Kinds.{event_codes, known_codes, codes_of}
use Rattle.toolkit_model.specs.Changes.{events_of}

-- ---- whether a code is among those of some bits

abbrev is_among : List ℕ → ℕ → Bool
is_among codes code = list_any (λ other. other == code) codes

one_more : (set here among rest : Bool) (codes : List ℕ) (first code : ℕ) → (first == code) ≡ here → is_among codes code ≡ rest → is_among (cond set (first ∷ codes) codes) code ≡ (here && set || rest)
one_more true true among rest codes first code is later = ap (λ (b : Bool). b || is_among codes code) is
one_more true false among rest codes first code is later = ap (λ (b : Bool). b || is_among codes code) is ∙ later
one_more false true among rest codes first code is later = later
one_more false false among rest codes first code is later = later

map_cond : (set : Bool) (event : ℕ × ℕ) (events : List (ℕ × ℕ)) → map (λ (e : ℕ × ℕ). e.0) (cond set (event ∷ events) events) ≡ cond set (event.0 ∷ map (λ (e : ℕ × ℕ). e.0) events) (map (λ (e : ℕ × ℕ). e.0) events)
map_cond true event events = refl
map_cond false event events = refl

among_set : (is_set : ℕ × ℕ → Bool) (events : List (ℕ × ℕ)) (code : ℕ) → is_among (map (λ (e : ℕ × ℕ). e.0) (filter is_set events)) code ≡ list_any (λ (e : ℕ × ℕ). e.0 == code && is_set e) events
among_set is_set [] code = refl
among_set is_set (event ∷ events) code =
    ap (λ (codes : List ℕ). is_among codes code) (map_cond (is_set event) event (filter is_set events))
    ∙ one_more (is_set event) (event.0 == code) true (list_any (λ (e : ℕ × ℕ). e.0 == code && is_set e) events) (map (λ (e : ℕ × ℕ). e.0) (filter is_set events)) event.0 code refl (among_set is_set events code)

or_false : (b : Bool) → (b || false) ≡ b
or_false true = refl
or_false false = refl

module _ (events : ℕ) where
  abbrev is_set : ℕ → Bool
  is_set bit = bit_at events bit == 1

  abbrev Tells : ℕ → ℕ → Type 0
  Tells code bit = is_among (codes_of events) code ≡ is_set bit

  found : (code : ℕ) → is_among (codes_of events) code ≡ list_any (λ (e : ℕ × ℕ). e.0 == code && is_set e.1) event_codes
  found code = among_set (λ e. is_set e.1) event_codes code

  -- each code of a table is told by its bit, the first by this one
  abbrev AreTold : ℕ → List ℕ → Type 0
  AreTold bit [] = Unit {0}
  AreTold bit (code ∷ table) = Tells code bit × AreTold (suc bit) table

  -- by the table, its own event alone has this code
  told : (code bit : ℕ) → list_any (λ (e : ℕ × ℕ). e.0 == code && is_set e.1) event_codes ≡ (is_set bit || false) → Tells code bit
  told code bit only = found code ∙ only ∙ or_false (is_set bit)

  all_told : AreTold 0 known_codes
  all_told = (told 0x00 0 refl, (told 0x01 1 refl, (told 0x02 2 refl, (told 0x03 3 refl, (told 0x04 4 refl, (told 0x05 5 refl, (told 0x07 6 refl, (told 0x09 7 refl, (told 0x0A 8 refl, (told 0x40 9 refl, (told 0x41 10 refl, (told 0x45 11 refl, tt))))))))))))

  -- ---- the bits

  low_bit : (flag : Bool) (rest : ℕ) → (from_bool flag + 2 * rest) % 2 ≡ from_bool flag
  low_bit true rest = omega arith
  low_bit false rest = omega arith

  upper_bits : (flag : Bool) (rest : ℕ) → (from_bool flag + 2 * rest) / 2 ≡ rest
  upper_bits true rest = omega arith
  upper_bits false rest = omega arith

  bit_or_none : (n : ℕ) → n < 2 → from_bool (n == 1) ≡ n
  bit_or_none zero low = refl
  bit_or_none (suc zero) low = refl
  bit_or_none (suc (suc n)) low = absurd (omega (arith, low))

  each_bit : (first : ℕ) (table : List ℕ) → AreTold first table → (k : ℕ) → k < length table → bit_at (bits_for table (codes_of events)) k ≡ bit_at events (first + k)
  unfolding bits_for
  each_bit first [] told k low = absurd (omega (arith, low))
  each_bit first (code ∷ table) told zero low =
      let flag : Bool = is_among (codes_of events) code in
      let rest : ℕ = bits_for table (codes_of events) in
      bit_at_lowest (from_bool flag + 2 * rest) ∙ low_bit flag rest ∙ ap (λ (b : Bool). from_bool b) told.0 ∙ bit_or_none (bit_at events first) (bit_at-lt events first) ∙ ap (λ (n : ℕ). bit_at events n) (sym (add-zero first))
  each_bit first (code ∷ table) told (suc k) low =
      let flag : Bool = is_among (codes_of events) code in
      let rest : ℕ = bits_for table (codes_of events) in
      let next : suc first + k ≡ first + suc k = omega arith in
      bit_at-suc (from_bool flag + 2 * rest) k ∙ ap (λ (n : ℕ). bit_at n k) (upper_bits flag rest) ∙ each_bit (suc first) table told.1 k (omega (arith, low)) ∙ ap (λ (n : ℕ). bit_at events n) next

  flag_low : (flag : Bool) (rest limit : ℕ) → rest < limit → from_bool flag + 2 * rest < 2 * limit
  flag_low true rest limit low = omega (arith, low)
  flag_low false rest limit low = omega (arith, low)

  none_low : 0 < 1
  none_low = omega arith

  bits_low : events_of (codes_of events) < 2 ^ 12
  unfolding bits_for
  bits_low = flag_low _ _ 2048 (flag_low _ _ 1024 (flag_low _ _ 512 (flag_low _ _ 256 (flag_low _ _ 128 (flag_low _ _ 64 (flag_low _ _ 32 (flag_low _ _ 16 (flag_low _ _ 8 (flag_low _ _ 4 (flag_low _ _ 2 (flag_low _ 0 1 none_low)))))))))))

  pub events_back : events < 2 ^ 12 → events_of (codes_of events) ≡ events
  events_back low = same_from_bits_below 12 (events_of (codes_of events)) events bits_low low (λ k within.
      let from_none : 0 + k ≡ k = omega arith in each_bit 0 known_codes all_told k within ∙ ap (λ (n : ℕ). bit_at events n) from_none)

-- bits that stand for codes are those of the codes
pub events_are : (events : ℕ) (codes : List ℕ) → events < 2 ^ 12 → codes_of events ≡ codes → events ≡ events_of codes
events_are events codes low is = sym (events_back events low) ∙ ap events_of is
