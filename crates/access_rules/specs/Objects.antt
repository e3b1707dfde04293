-- The BER-TLV objects that an access rule is written in (ISO 7816-4, 5.2.2).
use Rattle.std.specs.Prelude.{ℕ, ◌++◌, List, [], ◌∷◌, length, nat_le, if◌then◌else◌}

-- a length below 256: one byte up to 127, else 81 and a byte
abbrev pub length_bytes : ℕ → List ℕ
length_bytes n = if nat_le n 127 then n ∷ [] else 0x81 ∷ n ∷ []

-- a tag of one byte, the length of the value, and the value
unfoldable pub object : ℕ → List ℕ → List ℕ
object tag value = tag ∷ (length_bytes (length value) ++ value)
