-- What is asked of a table of entries, where the state asks it of files.
use Rattle.std.specs.Prelude.{ℕ, ◌&&◌, Bool}
use Rattle.card_state.specs.declared.entries.Node.{Node}
use Rattle.card_state.specs.Kinds.{is_ef_kind}
use Rattle.file_model.specs.Rooms.{share_a_byte}

-- an EF's entry, with a byte in this range
abbrev pub is_node_in_the_way : ℕ → ℕ → Node → Bool
is_node_in_the_way place size node = node.used && is_ef_kind node.kind && share_a_byte place size node.place node.size
