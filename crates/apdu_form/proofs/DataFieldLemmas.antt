-- What Lc says of the length of what follows it.
use Rattle.std.proofs.Common.{◌≡◌, ℕ, ◌+◌, ◌<◌, List, [], ◌∷◌, ◌++◌, length, Option, None, Some, arith}
use Rattle.std.proofs.lemmas.Grind.{common_steps}
use Rattle.apdu_form.specs.Model.{data_field, le_field}

-- after Lc stand Lc bytes, or one more
pub not_spelled : (lc : ℕ) (rest body : List ℕ) (ne : Option ℕ) → lc ∷ rest ≡ data_field body ++ le_field ne →
    0 < length rest → (length rest ≡ lc → ⊥) → (length rest ≡ lc + 1 → ⊥) → ⊥
not_spelled lc rest [] None e more a b = cc
not_spelled lc rest [] (Some n) e more a b = grind (arith, common_steps)
not_spelled lc rest (x ∷ xs) None e more a b = grind (arith, common_steps)
not_spelled lc rest (x ∷ xs) (Some n) e more a b = grind (arith, common_steps)
