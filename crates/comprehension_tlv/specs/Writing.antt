-- The one spelling that is written: tags of one byte, and the shortest lengths.
use Rattle.std.specs.Prelude.{ℕ, ◌+◌, ◌/◌, ◌%◌, ◌^◌, ◌<◌, ◌≤◌, List, [], ◌∷◌, ◌++◌, length, nat_lt, if◌then◌else◌}
use Rattle.std.specs.List.{flat_map}
use Rattle.comprehension_tlv.specs.Model.{Object, flagged}

-- a length in one byte below 128, in two below 256 (81), else in three (82)
abbrev pub shortest_length : ℕ → List ℕ
shortest_length len =
    if nat_lt len 128 then len ∷ [] else (if nat_lt len 256 then 129 ∷ len ∷ [] else 130 ∷ len / 256 ∷ len % 256 ∷ [])

-- one byte of tag, the shortest length, and the value
unfoldable pub tagged : ℕ → List ℕ → List ℕ
tagged tag value = tag ∷ shortest_length (length value) ++ value

-- the bytes of an object: the flag and the tag in one byte, the shortest length, and the value
abbrev pub spelling : Object → List ℕ
spelling object = tagged (flagged object.flag 128 + object.tag) object.value

-- the bytes of objects, one after the other
abbrev pub spellings : List Object → List ℕ
spellings objects = flat_map spelling objects

-- what has such a spelling
pub record IsWritableObject (object : Object) : Type 0 where
  pub low : 1 ≤ object.tag
  pub high : object.tag ≤ 126
  pub small : length object.value < 2 ^ 16
