-- The row of the table for each value of a word's lowest three bits, and the lines of the next words.
use Rattle.std.proofs.Common.{◌≡◌, ℕ, ◌%◌, ◌-◌, [], ◌∷◌, length, refl, ap, sym, arith, slice_index_or, zero, suc}
use Rattle.rand_pcg.specs.Lcg.{Lcg}
use Rattle.rand_pcg.specs.Pcg.{pcg32}
use Rattle.script_form.specs.declared.handset.HandsetLine.{HandsetLine}
use Rattle.script_form.specs.declared.handset.HandsetLine.TheVariants.{NetPoll}
use Rattle.long_runs.specs.LoadLines.{choices, line_for, lines_of_words}

pub line_at : (word row : ℕ) → word % 8 ≡ row → slice_index_or (choices word) row NetPoll ≡ line_for word
unfolding line_for
line_at word row is = ap (λ n. slice_index_or (choices word) n NetPoll) (sym is)

pub none_left : (left : ℕ) (words : Lcg) → left ≡ 0 → lines_of_words left words ≡ []
unfolding lines_of_words
none_left left words is = rw is refl

pub count_of : (count : ℕ) (words : Lcg) → length (lines_of_words count words) ≡ count
unfolding lines_of_words
count_of zero words = refl
count_of (suc count) words = ap suc (count_of count (pcg32 words).1)

pub one_more : (left : ℕ) (words next : Lcg) (word : ℕ) (line : HandsetLine) → (left ≡ 0 → ⊥) → (word, next) ≡ pcg32 words → line ≡ line_for word
    → lines_of_words left words ≡ line ∷ lines_of_words (left - 1) next
unfolding lines_of_words
one_more zero words next word line some drawn is = absurd (some refl)
one_more (suc left) words next word line some drawn is =
    let count : suc left - 1 ≡ left = omega arith in
    let word_is : word ≡ (pcg32 words).0 = ap (λ (p : ℕ × Lcg). p.0) drawn in
    let next_is : next ≡ (pcg32 words).1 = ap (λ (p : ℕ × Lcg). p.1) drawn in
    rw (is, word_is, next_is, count) refl
