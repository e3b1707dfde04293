-- The digits of half bytes.
use Rattle.std.specs.Prelude.{ℕ, ◌+◌, ◌/◌, ◌%◌, Bool, ◌&&◌, List, [], ◌∷◌, map, if◌then◌else◌}
use Rattle.std.specs.List.{flat_map, take_while}
use Rattle.applet_trait.specs.Tables.{halves, is_digit_half}

-- the filler is no digit
abbrev pub digit_of : ℕ → List ℕ
digit_of half = if is_digit_half half then (0x30 + half) ∷ [] else []

-- both half bytes are digits
abbrev pub has_two_digits : ℕ → Bool
has_two_digits byte = is_digit_half (byte % 16) && is_digit_half (byte / 16)

-- the digits up to the first filler
unfoldable pub digits_up_to : List ℕ → List ℕ
digits_up_to half_bytes = map (λ half. 0x30 + half) (take_while is_digit_half half_bytes)

-- the digits of an address, two to a byte, the lower half first
abbrev pub digits_of : List ℕ → List ℕ
digits_of bytes = digits_up_to (flat_map halves bytes)
