-- What some pieces make of a card.
use Rattle.std.specs.Prelude.{ℕ, List, Option}
use Rattle.store_form.specs.Pieces.{Piece, applied}
use Rattle.card_state.specs.declared.entries.Loaded.{Loaded}
use Rattle.card_state.specs.Persistent.{Persistent}
use Rattle.card_state.specs.Standing.{Stands, Agrees}

-- Once the pieces are written into the bytes of a card with this table, these have the other table and stand for the
-- changed state.
abbrev pub Commits : ℕ → Option (List ℕ) → Loaded → List Piece → Loaded → (Persistent → Persistent) → Type 0
Commits mark told table pieces table' change = (agrees : Agrees mark told table) → Stands mark (applied pieces agrees.content) table' (change agrees.state)
