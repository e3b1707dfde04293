-- What a reader answers, against what it may read.
use Rattle.std.specs.Prelude.{◌≡◌, Option, Some, None, ⊤}

-- it is so, and nothing else is
pub record IsOnly {X : Type 0} (May : X → Type 0) (value : X) : Type 0 where
  pub so : May value
  pub only : (other : X) → May other → other ≡ value

-- what is read may be read, and nothing else may; nothing is read only where nothing may be
abbrev pub Reads : {X : Type 0} → (X → Type 0) → Option X → Type 0
Reads May (Some value) = IsOnly May value
Reads {X} May None = (value : X) → May value → ⊥

-- the same of a reader that answers whether it read, and has what it read in a place of its caller's
abbrev pub ReadsInto : {X : Type 0} → (X → Type 0) → Option ⊤ → X → Type 0
ReadsInto May (Some done) value = IsOnly May value
ReadsInto {X} May None value = (other : X) → May other → ⊥
