-- What is written for a change, over each memory that a table is of.
use Rattle.std.specs.Prelude.{ℕ, List, option_map}
use Rattle.card_state.specs.declared.entries.Node.{Node}
use Rattle.card_state.specs.declared.entries.Loaded.{Loaded}
use Rattle.card_state.specs.Changing.{with_file_at}
use Rattle.card_state.specs.Persistent.{Persistent}
use Rattle.card_state.specs.Standing.{Stands}
use Rattle.card_state.specs.StateLaws.{file_with_number}
use Rattle.file_model.specs.Resizing.{file_resized}
use Rattle.file_model.specs.Rooms.{room_at}
use Rattle.layout_entries.specs.Laws.{after}
use Rattle.layout_entries.specs.Spelling.{node_part}
use Rattle.layout_laws.specs.Changes.{with_node}

-- Bytes are prepared in it, and then some bytes of an entry are written: it stands for the changed state.
abbrev pub IsWrittenOver : Loaded → (List ℕ → List ℕ) → ℕ → Node → ℕ → ℕ → (Persistent → Persistent) → Type 0
IsWrittenOver table prepared number node from to change =
    (store_mark : ℕ) (content : List ℕ) (state : Persistent) → Stands store_mark content table state
    → Stands store_mark (after (node_part number node from to) (prepared content)) (with_node table number node) (change state)

-- nothing is prepared
abbrev pub as_it_was : List ℕ → List ℕ
as_it_was content = content

-- the file of this number has another size, and goes where there is room for it if it grows
abbrev pub with_file_resized : ℕ → ℕ → Persistent → Persistent
with_file_resized number size state = with_file_at state number (option_map (file_resized (room_at state size) size) (file_with_number state number))
