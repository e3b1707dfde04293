-- A change of one row as it is committed to the card's memory, and as a session has it.
use Rattle.std.specs.Prelude.{◌≡◌, ℕ, ◌<◌, List, Some, None, AllPairs}
use Rattle.card_state.specs.Changing.{with_row_on, with_code_committed, without_code_committed, with_kept_committed}
use Rattle.card_state.specs.Persistent.{Registration, Persistent}
use Rattle.card_state.specs.Sections.{with_row}
use Rattle.toolkit_model.specs.Registry.{without_row, with_code, without_code, with_kept}

-- a row that is committed is the row that is installed
abbrev pub InstallsRow : Type 0
InstallsRow = (state : Persistent) (row : Registration) → (with_row_on state row.shelf (Some row)).rows ≡ with_row state.rows row

-- where the rows stand by their shelves
abbrev pub DeletesRow : Type 0
DeletesRow = (state : Persistent) (shelf : ℕ) → AllPairs (λ a b. a.shelf < b.shelf) state.rows → (with_row_on state shelf None).rows ≡ without_row state.rows shelf

-- a code that is committed is the code that is registered
abbrev pub RegistersCode : Type 0
RegistersCode = (state : Persistent) (shelf code : ℕ) → (with_code_committed shelf code state).rows ≡ with_code state.rows shelf code

-- a code that is taken away in a commit is the code that is deregistered
abbrev pub DeregistersCode : Type 0
DeregistersCode = (state : Persistent) (shelf code : ℕ) → (without_code_committed shelf code state).rows ≡ without_code state.rows shelf code

-- bytes that are committed are those that the row keeps
abbrev pub KeepsBytes : Type 0
KeepsBytes = (state : Persistent) (shelf : ℕ) (bytes : List ℕ) → (with_kept_committed shelf bytes state).rows ≡ with_kept state.rows shelf bytes
