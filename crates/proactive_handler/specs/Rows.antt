-- The rows of a card.
use Rattle.std.specs.Prelude.{ℕ, List, Option}
use Rattle.card_state.specs.declared.entries.Loaded.{Loaded}
use Rattle.card_state.specs.Standing.{Agrees}
use Rattle.card_state.specs.States.{rows_of}
use Rattle.event_dispatch.specs.Changes.{AreListed}

-- a table that agrees with its store has rows that an index can be kept of
abbrev pub RowsAreListed : Type 0
RowsAreListed = (store_mark : ℕ) (told : Option (List ℕ)) (table : Loaded) → Agrees store_mark told table → AreListed (rows_of table)
