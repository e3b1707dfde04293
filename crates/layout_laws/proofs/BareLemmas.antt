-- Entries without their numbers of two bytes: they spell their other fields as the entries do, and are in all ranges of numbers.
use Rattle.std.proofs.Common.{◌≡◌, ℕ, ◌<◌, ◌≤◌, ◌^◌, length, refl, lit<}
use Rattle.card_state.specs.declared.entries.Node.{Node}
use Rattle.card_state.specs.declared.entries.Row.{Row}
use Rattle.card_state.specs.Ranges.{HasNodeRanges, HasRowRanges}
use Rattle.layout_entries.specs.Spelling.{node_spelled, row_spelled, node_part, row_part}
use Rattle.layout_laws.specs.Bare.{bare_node, bare_row}

pub bare_node_ranges : (node : Node) → HasNodeRanges (bare_node node)
bare_node_ranges node = record { id = lit< tt; arr = lit< tt; place = lit< tt; size = lit< tt }

-- the first byte of a file's entry, its life cycle status and its head
pub bare_node_flag : (number : ℕ) (node : Node) → node_part number (bare_node node) 0 1 ≡ node_part number node 0 1
unfolding node_spelled
bare_node_flag number node = refl

pub bare_node_life : (number : ℕ) (node : Node) → node_part number (bare_node node) 6 7 ≡ node_part number node 6 7
unfolding node_spelled
bare_node_life number node = refl

pub bare_node_head : (number : ℕ) (node : Node) → node_part number (bare_node node) 15 16 ≡ node_part number node 15 16
unfolding node_spelled
bare_node_head number node = refl

pub bare_row_ranges : (row : Row) → row.events < 2 ^ 16 → length row.text ≤ 10 → length row.kept ≤ 64 → HasRowRanges (bare_row row)
bare_row_ranges row events text kept = record { sequence = lit< tt; events = events; text = text; kept = kept }

-- the first byte of a row, its events, and what it keeps
pub bare_row_flag : (shelf : ℕ) (row : Row) → row_part shelf (bare_row row) 0 1 ≡ row_part shelf row 0 1
unfolding row_spelled
bare_row_flag shelf row = refl

pub bare_row_events : (shelf : ℕ) (row : Row) → row_part shelf (bare_row row) 5 7 ≡ row_part shelf row 5 7
unfolding row_spelled
bare_row_events shelf row = refl

pub bare_row_kept : (shelf to : ℕ) (row : Row) → row_part shelf (bare_row row) 18 to ≡ row_part shelf row 18 to
unfolding row_spelled
bare_row_kept shelf to row = refl
