-- A table in which one entry is another. An entry that is not used is the empty one.
use Rattle.std.specs.Prelude.{ℕ, slice_set}
use Rattle.card_state.specs.declared.entries.Node.{Node}
use Rattle.card_state.specs.declared.entries.PinSlot.{PinSlot}
use Rattle.card_state.specs.declared.entries.Row.{Row}
use Rattle.card_state.specs.declared.entries.Loaded.{Loaded}
use Rattle.layout_entries.specs.Fields.{shown_node, shown_pin, shown_row}

-- the table with another entry of a file
abbrev pub with_node : Loaded → ℕ → Node → Loaded
with_node table number node = record table { nodes = slice_set table.nodes number (shown_node node) }

-- the table with another PIN slot
abbrev pub with_slot : Loaded → ℕ → PinSlot → Loaded
with_slot table slot pin = record table { pins = slice_set table.pins slot (shown_pin pin) }

-- the table with another row
abbrev pub with_row : Loaded → ℕ → Row → Loaded
with_row table shelf row = record table { rows = slice_set table.rows shelf (shown_row row) }
