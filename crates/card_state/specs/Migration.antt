-- The state that a card of version 1 of the layout comes to when it is opened.
use Rattle.std.specs.Prelude.{ℕ, ◌+◌, Bool, true, not, ◌&&◌, ◌||◌, nat_le, if◌then◌else◌, List, replicate}
use Rattle.std.specs.List.{list_all}
use Rattle.card_state.specs.declared.entries.Node.{Node}
use Rattle.card_state.specs.declared.entries.Loaded.{Loaded}
use Rattle.card_state.specs.Kinds.{is_ef_kind}
use Rattle.card_state.specs.Places.{data_end}
use Rattle.card_state.specs.Persistent.{File, Persistent}

-- an EF of this file ends at or below the place where the bytes of a wide card's files end
abbrev pub ends_low : File → Bool
ends_low file = not (is_ef_kind file.kind) || nat_le (file.place + file.size) (data_end true)

-- made wide where each EF ends so low
unfoldable pub migrated : Persistent → Persistent
migrated state = if list_all ends_low state.files then record state { is_wide = true } else state

-- the same of an entry, and of the entries of a table
abbrev pub entry_ends_low : Node → Bool
entry_ends_low node = not (node.used && is_ef_kind node.kind) || nat_le (node.place + node.size) (data_end true)

-- so it is with each entry of a table
unfoldable pub entries_end_low : Loaded → Bool
entries_end_low table = list_all entry_ends_low table.nodes

-- the rows of the shelves above 15, after the files of a wide card: none of them is used
unfoldable pub no_upper_rows : List ℕ
no_upper_rows = replicate 1024 0
