-- Bytes that a device, a source or a sink may tell, or may not: where they are not told, nothing is claimed of them.
use Rattle.std.specs.Prelude.{◌≡◌, ℕ, ◌<◌, ◌^◌, List, ◌++◌, Option, Some, None, All}

-- what is told now is in the relation with what was told before; a teller goes on telling, or goes on telling nothing
abbrev pub Becomes : (List ℕ → List ℕ → Type 0) → Option (List ℕ) → Option (List ℕ) → Type 0
Becomes R None None = Unit {0}
Becomes R None (Some now) = ⊥
Becomes R (Some before) None = ⊥
Becomes R (Some before) (Some now) = R before now

-- the first list is the beginning of the second
abbrev pub IsFront : List ℕ → List ℕ → Type 0
IsFront front whole = (rest : List ℕ) × (whole ≡ front ++ rest)

-- each of these numbers is one that a byte can be
abbrev pub AreBytes : List ℕ → Type 0
AreBytes = All (λ byte. byte < 2 ^ 8)
