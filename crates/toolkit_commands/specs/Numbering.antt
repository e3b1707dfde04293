-- The bytes of a command with another number (ETSI TS 102 223, 6.6.1 and 8.6): the number is the first byte of the value of
-- the command details, which stand first in the template.
use Rattle.std.specs.Prelude.{ℕ, ◌+◌, List, ◌∷◌, ◌++◌, take, drop, slice_index_or, ◌==◌, if◌then◌else◌}

-- where the number stands: after the tag of the template, its length of one byte or two, and the tag and the length of
-- the details
abbrev pub place_of_number : List ℕ → ℕ
place_of_number bytes = if slice_index_or bytes 1 0 == 129 then 5 else 4

-- the bytes of a command with this number in place of its own
abbrev pub renumbered : ℕ → List ℕ → List ℕ
renumbered number bytes = take (place_of_number bytes) bytes ++ number ∷ drop (place_of_number bytes + 1) bytes
