-- Entries without their numbers of two bytes.
use Rattle.card_state.specs.declared.entries.Node.{Node}
use Rattle.card_state.specs.declared.entries.Row.{Row}

-- the entry of a file
abbrev pub bare_node : Node → Node
bare_node node = record node { id = record { 0 = 0 }; arr = record { 0 = 0 }; place = 0; size = 0 }

-- a row
abbrev pub bare_row : Row → Row
bare_row row = record row { sequence = 0 }
