-- What the commits of rows make of the rows of a card (ETSI TS 102 241).
use Rattle.std.specs.Prelude.{◌≡◌, ℕ, List, Some, None}
use Rattle.card_state.specs.Changing.{with_row_on, with_code_committed, without_code_committed, with_kept_committed}
use Rattle.card_state.specs.Persistent.{Registration, Persistent}
use Rattle.toolkit_model.specs.Steps.{AreRows}
use Rattle.event_dispatch.specs.Changes.{Installs, Deletes, Registers, Deregisters, Keeps, changed}

-- The rows after the commit of a row more or less, of an event of it more or less, or of what it keeps are those after the change.
pub record CommitsAreChanges : Type 0 where
  pub installs : (state : Persistent) (row : Registration) → (with_row_on state row.shelf (Some row)).rows ≡ changed (Installs row) state.rows
  pub deletes : (state : Persistent) (shelf : ℕ) → AreRows state.rows → (with_row_on state shelf None).rows ≡ changed (Deletes shelf) state.rows
  pub registers : (state : Persistent) (shelf code : ℕ) → (with_code_committed shelf code state).rows ≡ changed (Registers shelf code) state.rows
  pub deregisters : (state : Persistent) (shelf code : ℕ) → (without_code_committed shelf code state).rows ≡ changed (Deregisters shelf code) state.rows
  pub keeps : (state : Persistent) (shelf : ℕ) (bytes : List ℕ) → (with_kept_committed shelf bytes state).rows ≡ changed (Keeps shelf bytes) state.rows
