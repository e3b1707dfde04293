-- How many items there are.
use Rattle.std.specs.Prelude.{◌≡◌, ℕ, List, [], ◌∷◌, length, min, Result, Ok}
use Rattle.toolkit_commands.specs.declared.faults.ProactiveFault.{ProactiveFault}

-- as far as a byte can say
abbrev pub counted : List (List ℕ) → Result ℕ ProactiveFault
counted found = Ok (min (length found) 255)

-- the value of the first item
abbrev pub IsFirst : List (List ℕ) → List ℕ → Type 0
IsFirst [] first = ⊥
IsFirst (value ∷ others) first = value ≡ first
