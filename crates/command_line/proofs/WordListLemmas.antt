-- A list of words, word by word.
use Rattle.std.proofs.Common.{◌≡◌, ℕ, ◌-◌, ◌≤◌, List, [], ◌∷◌, map, length, take, drop, ap, ◌∙◌, arith, slice_index_or, take_all}

-- the word at a place
abbrev At : {A B : Type 0} → (A → B) → List A → ℕ → A → B → Type 0
At f words place word bytes = (bytes ≡ f word) × (word ≡ slice_index_or words place word)

-- the first, and those after it
pub first_and_rest : {A B : Type 0} → (f : A → B) (words : List A) (first : A) (bytes : B) → 1 ≤ length words → At f words 0 first bytes
    → bytes ∷ map f (take (length words - 1) (drop 1 words)) ≡ map f words
first_and_rest f [] first bytes some at = let none : ⊥ = omega arith in absurd none
first_and_rest f (word ∷ more) first bytes some at =
    let behind : take (length (word ∷ more) - 1) more ≡ more = take_all _ _ (omega arith) in
    ap (λ l. bytes ∷ map f l) behind ∙ ap (λ b. b ∷ map f more) (at.0 ∙ ap f at.1)

-- the first two, and those after them
pub two_and_rest : {A B : Type 0} → (f : A → B) (words : List A) (a b : A) (first second : B) → 2 ≤ length words → At f words 0 a first → At f words 1 b second
    → first ∷ second ∷ map f (take (length words - 2) (drop 2 words)) ≡ map f words
two_and_rest f [] a b first second some at_0 at_1 = let none : ⊥ = omega arith in absurd none
two_and_rest f (word ∷ []) a b first second some at_0 at_1 = let none : ⊥ = omega arith in absurd none
two_and_rest f (word ∷ next ∷ more) a b first second some at_0 at_1 =
    let behind : take (length (word ∷ next ∷ more) - 2) more ≡ more = take_all _ _ (omega arith) in
    ap (λ l. first ∷ second ∷ map f l) behind ∙ ap (λ w. w ∷ second ∷ map f more) (at_0.0 ∙ ap f at_0.1) ∙ ap (λ w. f word ∷ w ∷ map f more) (at_1.0 ∙ ap f at_1.1)
