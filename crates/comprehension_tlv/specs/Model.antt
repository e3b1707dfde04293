-- Which bytes are a list of comprehension-TLV objects, and which are a BER template (ETSI TS 101 220, 7.1; TS 102 223,
-- clause 8). Whole spellings are joined here; nothing is said of how they are read.
use Rattle.std.specs.Prelude.{◌≡◌, ℕ, ◌+◌, ◌*◌, ◌<◌, ◌^◌, Bool, true, false, List, [], ◌∷◌, ◌++◌, length}

-- an object: its comprehension flag, its tag and its value
pub record Object : Type 0 where
  pub flag : Bool
  pub tag : ℕ
  pub value : List ℕ

-- what the flag adds to the number of a tag whose highest bit it is
abbrev pub flagged : Bool → ℕ → ℕ
flagged false bit = 0
flagged true bit = bit

-- The bytes of a tag (7.1.1): one byte, which isn't 00, 80 or FF, with the flag in b8 and the tag in the other bits, or
-- 7F and two bytes, of which b16 is the flag and the other bits are the tag. So 7F and FF are no tags of one byte.
abbrev pub IsTag : List ℕ → Bool → ℕ → Type 0
IsTag (first ∷ []) flag tag = (0 < tag) × (tag < 127) × (first ≡ flagged flag 128 + tag)
IsTag (first ∷ high ∷ low ∷ []) flag tag = (first ≡ 127) × (tag < 2 ^ 15) × (256 * high + low ≡ flagged flag (2 ^ 15) + tag)
IsTag _ flag tag = ⊥

-- The bytes of a length (7.1.2): 00 to 7F, or 81 and one byte, or 82 and two bytes.
abbrev pub IsLength : List ℕ → ℕ → Type 0
IsLength (first ∷ []) len = (first < 128) × (len ≡ first)
IsLength (form ∷ low ∷ []) len = (form ≡ 129) × (len ≡ low)
IsLength (form ∷ high ∷ low ∷ []) len = (form ≡ 130) × (len ≡ 256 * high + low)
IsLength _ len = ⊥

-- a tag, a length and a value
pub record IsObject (bytes : List ℕ) (object : Object) : Type 0 where
  pub tag_bytes : List ℕ
  pub length_bytes : List ℕ
  pub tag_form : IsTag tag_bytes object.flag object.tag
  pub length_form : IsLength length_bytes (length object.value)
  pub whole : bytes ≡ tag_bytes ++ length_bytes ++ object.value

-- the bytes are the objects one after the other, and nothing else
abbrev pub IsObjects : List ℕ → List Object → Type 0
IsObjects bytes [] = bytes ≡ []
IsObjects bytes (object ∷ others) =
    (first rest : List ℕ) × (bytes ≡ first ++ rest) × IsObject first object × IsObjects rest others

-- a BER template: one byte of tag, which may be any byte, a length, and a content that fills the rest
pub record IsTemplate (bytes : List ℕ) (tag : ℕ) (content : List ℕ) : Type 0 where
  pub length_bytes : List ℕ
  pub length_form : IsLength length_bytes (length content)
  pub whole : bytes ≡ tag ∷ length_bytes ++ content
