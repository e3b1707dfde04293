-- The answer of a test of one check, and of some.
use Rattle.std.specs.Prelude.{◌≡◌, ℕ, true, false, List, Some, None, Result, MatchResult}
use Rattle.card_state.specs.Checks.{Check, first_failed}

-- all checks are met, or the place of the first that fails is answered
abbrev pub FindsFirst : {X : Type 0} → List Check → Result X ℕ → Type 0
FindsFirst checks result = MatchResult result (λ done. first_failed checks ≡ None) (λ at. first_failed checks ≡ Some at)

-- the check is met and this is answered, or it isn't, and its place is
abbrev pub PassesCheck : {X : Type 0} → Check → X → Result X ℕ → Type 0
PassesCheck check entry result =
    MatchResult result (λ found. (check.is_met ≡ true) × (found ≡ entry)) (λ at. (check.is_met ≡ false) × (at ≡ check.place))
