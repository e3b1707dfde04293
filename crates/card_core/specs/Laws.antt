-- What holds of every table of a card.
use Rattle.std.specs.Prelude.{ℕ, ◌<◌, List, All, Option}
use Rattle.card_state.specs.declared.entries.Loaded.{Loaded}
use Rattle.card_state.specs.Standing.{Agrees}
use Rattle.card_state.specs.States.{rows_of}
use Rattle.card_state.specs.Used.{HasOwnKeys}
use Rattle.file_model.specs.Files.{descriptors_of}
use Rattle.file_model.specs.Selections.{IsSelection}
use Rattle.file_model.specs.declared.selections.TheConstants.Selection.{AT_START}
use Rattle.toolkit_model.specs.Steps.{AreRows}

-- the MF is there to be selected
abbrev pub TheMfIsThere : Type 0
TheMfIsThere = (store_mark : ℕ) (told : Option (List ℕ)) (table : Loaded) → Agrees store_mark told table → IsSelection (descriptors_of table) AT_START

-- its rows are such as a card may have, and the next sequence number is above theirs
abbrev pub TablesHaveRows : Type 0
TablesHaveRows =
    (store_mark : ℕ) (told : Option (List ℕ)) (table : Loaded) → Agrees store_mark told table → AreRows (rows_of table) × All (λ row. row.sequence < table.next) (rows_of table)

-- each PIN is in the slot of its key
abbrev pub KeysAreOwn : Type 0
KeysAreOwn = (store_mark : ℕ) (told : Option (List ℕ)) (table : Loaded) → Agrees store_mark told table → HasOwnKeys table
