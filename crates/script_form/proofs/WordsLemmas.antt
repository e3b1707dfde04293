-- The words of a line, parted at its first space.
use Rattle.std.proofs.Common.{◌≡◌, ℕ, ◌+◌, ◌-◌, ◌<◌, ◌≤◌, ◌==◌, Bool, false, List, [], ◌∷◌, length, take, drop, Bor, Option, Some, None, sym, ap, ◌∙◌, arith, ltb-true, position, nat_lt, ltb-false}
use Rattle.std.specs.List.{position_or_len}
use Rattle.std.proofs.lemmas.List.{take_rest}
use Rattle.std.proofs.lemmas.List.Splits.{slice_split_first, slice_split_none, length-slice_split}
use Rattle.std.proofs.lemmas.List.Sums.{fails_before_first}
use Rattle.std.proofs.lemmas.List.Elements.{All-from_get_or}
use Rattle.std.proofs.lemmas.Option.{cond_some}
use Rattle.list_laws.proofs.IfSomeLemmas.{none_chosen}
use Rattle.script_form.specs.Words.{words, words_left}

abbrev pub is_space : ℕ → Bool
is_space byte = byte == 32

-- where there is a space, the words are what stands before it and the words of what stands after it
pub words_at : (line : List ℕ) (at : ℕ) → position is_space line ≡ Some at
    → words line ≡ take at line ∷ words (take (length line - (at + 1)) (drop (at + 1) line))
unfolding words
words_at line at e =
    let place = cond_some (nat_lt (position_or_len is_space line) (length line)) (position_or_len is_space line) at e in
    let inside : position_or_len is_space line < length line = ltb-true _ _ place.0 in
    let parted = slice_split_first is_space line 0 inside in
    rw (take_rest line (at + 1), ← place.1) parted

-- where there is none, the line is the only word
pub words_alone : (line : List ℕ) → position is_space line ≡ None → words line ≡ line ∷ []
unfolding words
words_alone line e =
    let none = none_chosen (nat_lt (position_or_len is_space line) (length line)) (position_or_len is_space line) e in
    let far : length line ≤ position_or_len is_space line = ltb-false _ _ none in
    slice_split_none is_space line
    (All-from_get_or (λ byte. is_space byte ≡ false) line 0 (λ k h. fails_before_first is_space line k 0 (omega arith)))

-- a line has a word, if only an empty one
pub words_left_some : (rest : Option (Bor (List ℕ))) (line : Bor (List ℕ)) → rest ≡ Some line → words_left rest ≡ [] → ⊥
unfolding words
words_left_some rest line is none =
    let some : words line.now ≡ [] = sym (ap words_left is) ∙ none in
    omega (arith, length-slice_split is_space line.now, ap length some)
