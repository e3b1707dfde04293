-- Numbers of two bytes.
use Rattle.std.specs.Prelude.{ℕ, List}
use Rattle.std.specs.Int.{w16, to_be_bytes}

-- a number of two bytes, the upper one first
abbrev pub two_bytes : ℕ → List ℕ
two_bytes number = to_be_bytes w16 number
