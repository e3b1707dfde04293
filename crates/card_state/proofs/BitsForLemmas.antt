-- The events of a row as bits.
use Rattle.std.proofs.Common.{suc, ◌≡◌, ℕ, ◌+◌, ◌*◌, ◌/◌, ◌%◌, Bool, true, false, cond, List, [], ◌∷◌, map, refl, sym, ◌∙◌, ap, arith, add-zero, ◌==◌, filter}
use Rattle.std.specs.Int.{bit_at, from_bool}
use Rattle.std.specs.List.{list_any}
use Rattle.std.proofs.lemmas.Nat.Bits.{bit_at-suc, bit_at_lowest}
use Rattle.card_state.specs.Kinds.{codes_of}
use Rattle.card_state.specs.Sections.{sorted_codes}
use Rattle.card_state.specs.Events.{bits_for}

abbrev pub pairs : ℕ → List ℕ → List (ℕ × ℕ)
pairs i [] = []
pairs i (code ∷ table) = (code, i) ∷ pairs (i + 1) table

abbrev is_among : List ℕ → ℕ → Bool
is_among codes code = list_any (λ other. other == code) codes

low_bit : (flag : Bool) (rest : ℕ) → ((from_bool flag + 2 * rest) % 2 == 1) ≡ flag
low_bit true rest = let odd : (1 + 2 * rest) % 2 ≡ 1 = omega arith in ap (λ n. n == 1) odd
low_bit false rest = let even : (0 + 2 * rest) % 2 ≡ 0 = omega arith in ap (λ n. n == 1) even

upper_bits : (flag : Bool) (rest : ℕ) → (from_bool flag + 2 * rest) / 2 ≡ rest
upper_bits true rest = omega arith
upper_bits false rest = omega arith

-- the bits from one on are those of a table
same_codes : (bits i : ℕ) (table codes : List ℕ) → ((j : ℕ) → bit_at bits (i + j) ≡ bit_at (bits_for table codes) j)
    → filter (λ event. bit_at bits event.1 == 1) (pairs i table) ≡ filter (λ event. is_among codes event.0) (pairs i table)
unfolding bits_for
same_codes bits i [] codes each = refl
same_codes bits i (code ∷ table) codes each =
    let all : ℕ = from_bool (is_among codes code) + 2 * bits_for table codes in
    let here : (bit_at bits i == 1) ≡ is_among codes code =
    ap (λ n. n == 1) (ap (λ k. bit_at bits k) (sym (add-zero i)) ∙ each 0 ∙ bit_at_lowest all) ∙ low_bit (is_among codes code) (bits_for table codes) in
    let rest : filter (λ event. bit_at bits event.1 == 1) (pairs (i + 1) table) ≡ filter (λ event. is_among codes event.0) (pairs (i + 1) table) =
    same_codes bits (i + 1) table codes
    (λ j. ap (λ k. bit_at bits k) (omega arith) ∙ each (suc j) ∙ bit_at-suc all j ∙ ap (λ n. bit_at n j) (upper_bits (is_among codes code) (bits_for table codes))) in
    ap (λ b. cond b ((code, i) ∷ filter (λ event. bit_at bits event.1 == 1) (pairs (i + 1) table)) (filter (λ event. bit_at bits event.1 == 1) (pairs (i + 1) table))) here
    ∙ ap (λ l. cond (is_among codes code) ((code, i) ∷ l) l) rest

abbrev pub event_table : List ℕ
event_table = 0x00 ∷ 0x01 ∷ 0x02 ∷ 0x03 ∷ 0x04 ∷ 0x05 ∷ 0x07 ∷ 0x09 ∷ 0x0A ∷ 0x40 ∷ 0x41 ∷ 0x45 ∷ []

pub codes_back : (codes : List ℕ) → codes_of (bits_for event_table codes) ≡ sorted_codes codes
codes_back codes =
    let bits : ℕ = bits_for event_table codes in
    ap (λ l. map (λ event. event.0) l) (same_codes bits 0 event_table codes (λ j. ap (λ k. bit_at bits k) (omega arith)))
