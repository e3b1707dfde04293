-- A line of a trace, as its bytes stand.
use Rattle.std.specs.Prelude.{◌≡◌, ◌≢◌, ℕ, List, [], ◌∷◌, ◌++◌}

-- none of these bytes is 0A
abbrev pub IsOneLine : List ℕ → Type 0
IsOneLine [] = Unit {0}
IsOneLine (byte ∷ others) = (byte ≢ 10) × IsOneLine others

-- the bytes are this line with its end, and no more
pub record IsWholeLine (bytes line : List ℕ) : Type 0 where
  pub ends : bytes ≡ line ++ 10 ∷ []
  pub one : IsOneLine line
