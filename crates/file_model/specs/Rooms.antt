-- Where there is room on a card: for the bytes of an EF, and for one file more.
use Rattle.std.specs.Prelude.{ℕ, ◌+◌, ◌-◌, ◌≤◌, ◌<◌, min, max, Bool, not, ◌&&◌, nat_lt, nat_le, List, [], ◌∷◌, map, filter, find, All, Option, Some, None, is_none}
use Rattle.std.specs.Option.{option_map_or}
use Rattle.std.specs.List.{range_with_len, list_any}
use Rattle.card_state.specs.declared.sizes.TheConstants.{NODE_COUNT}
use Rattle.card_state.specs.Kinds.{is_ef_kind}
use Rattle.card_state.specs.Places.{data_place, data_end}
use Rattle.card_state.specs.Persistent.{File, Persistent}
use Rattle.card_state.specs.Soundness.{IsEf}
use Rattle.card_state.specs.StateLaws.{file_with_number}

-- ---- room for bytes

-- So many bytes may stand from this place on: they lie among the bytes of the files, and none of them is an EF's.
pub record IsRoom (state : Persistent) (size place : ℕ) : Type 0 where
  pub from : data_place ≤ place
  pub to : place + size ≤ data_end state.is_wide
  pub free : All (λ file. IsEf file → (byte : ℕ) → place ≤ byte → byte < place + size → file.place ≤ byte → byte < file.place + file.size → ⊥) state.files

-- the smallest place at which they may stand, or there is none
abbrev pub IsSmallestRoom : Persistent → ℕ → Option ℕ → Type 0
IsSmallestRoom state size None = (place : ℕ) → IsRoom state size place → ⊥
IsSmallestRoom state size (Some place) = IsRoom state size place × ((other : ℕ) → IsRoom state size other → place ≤ other)

-- ---- the same, computed

-- a byte is in both of these ranges: the later of their beginnings comes before the earlier of their ends
abbrev pub share_a_byte : ℕ → ℕ → ℕ → ℕ → Bool
share_a_byte place size other other_size = nat_lt (max place other) (min (place + size) (other + other_size))

-- an EF that has one of these bytes
abbrev pub is_in_the_way : ℕ → ℕ → File → Bool
is_in_the_way place size file = is_ef_kind file.kind && share_a_byte place size file.place file.size

-- so many bytes may stand from this place on: they lie among those of the files, and no EF is in the way
abbrev pub is_room : Persistent → ℕ → ℕ → Bool
is_room state size place = nat_le data_place place && nat_le (place + size) (data_end state.is_wide) && not (list_any (is_in_the_way place size) state.files)

-- the smallest of the numbers, if there is one
abbrev pub smallest : List ℕ → Option ℕ
smallest [] = None
smallest (number ∷ numbers) = Some (option_map_or (min number) (smallest numbers) number)

-- where free bytes may begin: where those of the files do, and where a file ends
abbrev pub beginnings : List File → List ℕ
beginnings files = data_place ∷ map (λ file. file.place + file.size) files

-- the smallest place at which so many bytes may stand
unfoldable pub room_at : Persistent → ℕ → Option ℕ
room_at state size = smallest (filter (is_room state size) (beginnings state.files))

-- ---- room for a file

-- The smallest number above that of its DF that no file has, of those that a card has entries for.
unfoldable pub free_number : Persistent → ℕ → Option ℕ
free_number state df = find (λ number. is_none (file_with_number state number)) (range_with_len (df + 1) (NODE_COUNT - (df + 1)))
