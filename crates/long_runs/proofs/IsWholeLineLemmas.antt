-- Bytes that end as a line does, and not before.
use Rattle.std.proofs.Common.{◌≡◌, ◌≢◌, ◌==◌, true, ℕ, suc, ◌+◌, ◌<◌, ◌≤◌, min, List, [], ◌∷◌, ◌++◌, length, take, get_or, slice_index, refl, sym, ap, ◌∙◌, drop-cons, arith, inl, inr, take-append-drop, length-take-le, get_or-take, take_all}
use Rattle.std.proofs.Math.Seq.{drop-length}
use Rattle.std.proofs.lemmas.Bool.{cases_lt}
use Rattle.long_runs.specs.CountedLines.{IsOneLine, IsWholeLine}

is_end : (byte : ℕ) → byte ≡ 10 → (byte == 10) ≡ true
is_end byte same = grind (arith, same)

end_is : (byte : ℕ) → (byte == 10) ≡ true → byte ≡ 10
end_is byte same = grind (arith, same)

one_line : (line : List ℕ) → ((place : ℕ) → place < length line → get_or line place 0 ≢ 10) → IsOneLine line
one_line [] none = tt
one_line (byte ∷ line) none = (none 0 (omega arith), one_line line (λ place inside. none (suc place) (omega arith)))

pub line_before : (bytes : List ℕ) (place : ℕ) → place + 1 ≡ length bytes → (slice_index bytes place == 10) ≡ true
    → ((earlier : ℕ) → 0 ≤ earlier → earlier < place → (slice_index bytes earlier == 10) ≡ true → ⊥) → IsWholeLine bytes (take place bytes)
line_before bytes place last ends before =
    let long : length (take place bytes) ≡ place = length-take-le place bytes (omega arith) in
    let after : suc place ≡ length bytes = omega arith in
    record {
      ends = sym (take-append-drop place bytes)
          ∙ ap (λ (rest : List ℕ). take place bytes ++ rest) (drop-cons bytes place 0 (omega arith) ∙ rw (end_is (slice_index bytes place) ends, after, drop-length bytes) refl);
      one = one_line (take place bytes)
          (λ earlier below is.
          let lt : earlier < place = omega arith in
          before earlier (omega arith) lt (is_end (slice_index bytes earlier) (sym (get_or-take place bytes earlier 0 lt) ∙ is)));
    }

pub first_six : (line : List ℕ) → take (min (length line) 6) line ≡ take 6 line
first_six line = elim (cases_lt (length line) 6) [
  | inl short ↦
      let is : min (length line) 6 ≡ length line = omega arith in
      ap (λ count. take count line) is ∙ take_all (length line) line (omega arith) ∙ sym (take_all 6 line (omega arith))
  | inr long ↦ let is : min (length line) 6 ≡ 6 = omega arith in ap (λ count. take count line) is
]
