-- What a store stands for after one of its calls, from what its bytes stand for once they are written.
use Rattle.std.specs.Prelude.{◌≡◌, ◌⊎◌, ℕ, List, length, Option, option_map}
use Rattle.list_laws.specs.Patches.{patched, Torn}
use Rattle.uicc_types.specs.Told.{Becomes}
use Rattle.card_state.specs.declared.entries.Loaded.{Loaded}
use Rattle.card_state.specs.Persistent.{Persistent}
use Rattle.card_state.specs.States.{state_of}
use Rattle.card_state.specs.Standing.{Stands, standing, Agrees}
use Rattle.layout_laws.specs.Cards.{IsFreeRange}

-- A store that tells its bytes stands for this state, one that doesn't for none that is known; and the table is that of the
-- bytes that it holds.
pub record StandsWith (store_mark : ℕ) (told : Option (List ℕ)) (table : Loaded) (state : Option Persistent) : Type 0 where
  pub standing_is : standing store_mark told ≡ state
  pub agrees : Agrees store_mark told table

-- Where a table agrees, a store that tells its bytes stands for the state of the table over them.
abbrev pub AgreeingStands : Type 0
AgreeingStands =
    (store_mark : ℕ) (told : Option (List ℕ)) (table : Loaded) → Agrees store_mark told table → standing store_mark told ≡ option_map (state_of table) told

-- After an Ok the store holds what was written, and stands for the changed state.
abbrev pub WrittenStands : Type 0
WrittenStands =
    (store_mark : ℕ) (told told' : Option (List ℕ)) (table table' : Loaded) (written : List ℕ → List ℕ) (change : Persistent → Persistent) (agrees : Agrees store_mark told table)
    → Stands store_mark (written agrees.content) table' (change agrees.state) → told' ≡ option_map written told
    → StandsWith store_mark told' table' (option_map change (standing store_mark told))

-- After a fault of a commit it holds what it held, or what was to be written: it stands for the state as it was, or for the
-- changed one.
abbrev pub OneOfBothStands : Type 0
OneOfBothStands =
    (store_mark : ℕ) (told told' : Option (List ℕ)) (table table' : Loaded) (written : List ℕ → List ℕ) (change : Persistent → Persistent) (agrees : Agrees store_mark told table)
    → Stands store_mark (written agrees.content) table' (change agrees.state) → (told' ≡ told) ⊎ (told' ≡ option_map written told)
    → StandsWith store_mark told' table (standing store_mark told) ⊎ StandsWith store_mark told' table' (option_map change (standing store_mark told))

-- Bytes of no file that were prepared don't count.
abbrev pub PreparedStands : Type 0
PreparedStands =
    (store_mark : ℕ) (told told' : Option (List ℕ)) (table : Loaded) (place : ℕ) (bytes : List ℕ) (agrees : Agrees store_mark told table)
    → IsFreeRange table.wide agrees.state.files place (length bytes) → told' ≡ option_map (patched place bytes) told → StandsWith store_mark told' table (standing store_mark told)

-- And so where a fault left them torn.
abbrev pub TornStands : Type 0
TornStands =
    (store_mark : ℕ) (told told' : Option (List ℕ)) (table : Loaded) (place count : ℕ) (agrees : Agrees store_mark told table)
    → IsFreeRange table.wide agrees.state.files place count → Becomes (Torn place count) told told' → StandsWith store_mark told' table (standing store_mark told)
