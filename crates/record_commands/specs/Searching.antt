-- The records of a search.
use Rattle.std.specs.Prelude.{◌≡◌, ℕ, ◌≤◌, ◌<◌, ◌+◌, ◌-◌, ◌*◌, Bool, true, false, List, [], reverse, take, drop, slice_index_or}
use Rattle.std.specs.List.{range_with_len}
use Rattle.card_state.specs.Persistent.{Persistent}
use Rattle.file_model.specs.declared.descriptors.Descriptor.{Descriptor}
use Rattle.file_model.specs.Holdings.{records_in}
use Rattle.file_model.specs.Records.{has_within}

-- how many records are left of a search, to the last of the file or back to the first
abbrev pub left_from : Bool → ℕ → ℕ → ℕ
left_from true count from = count + 1 - from
left_from false count from = from

-- of `count` records from `first` on, of which `left` are left: the number of the next one
abbrev pub number_left : Bool → ℕ → ℕ → ℕ → ℕ
number_left true first count left = first + (count - left)
number_left false first count left = first + (left - 1)

-- and the numbers of all of them, in the order of the search
abbrev pub numbers_left : Bool → ℕ → ℕ → ℕ → List ℕ
numbers_left true first count left = range_with_len (first + (count - left)) left
numbers_left false first count left = reverse (range_with_len first left)

-- of `left` records that are left of a search, `size` are read together next: the number of the first of them
abbrev pub first_left : Bool → ℕ → ℕ → ℕ → ℕ
first_left true count left size = 1 + (count - left)
first_left false count left size = 1 + (left - size)

-- whether the bytes stand in the record with this number
unfoldable pub is_match : Persistent → Descriptor → List ℕ → ℕ → Bool
is_match state file wanted number = has_within wanted (slice_index_or (records_in state file.number) (number - 1) [])

-- the number of a record of the file
abbrev pub IsRecord : Descriptor → ℕ → Type 0
IsRecord file number = (1 ≤ number) × (number ≤ file.count)

-- these bytes are the records from this number on, one after the other
abbrev pub AreRecords : Persistent → Descriptor → ℕ → ℕ → List ℕ → Type 0
AreRecords state file first count bytes =
    (k : ℕ) → k < count → take file.width (drop (k * file.width) bytes) ≡ slice_index_or (records_in state file.number) (first + k - 1) []
