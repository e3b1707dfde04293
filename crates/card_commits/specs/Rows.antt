-- What rows may be installed and registered.
use Rattle.std.specs.Prelude.{◌≡◌, ◌≢◌, ◌⊎◌, ℕ, ◌+◌, ◌<◌, true, [], IsTrue, Some, None}
use Rattle.card_state.specs.declared.entries.Row.{Row}
use Rattle.card_state.specs.declared.entries.Loaded.{Loaded}
use Rattle.card_state.specs.Kinds.{call_control_code}
use Rattle.card_state.specs.Persistent.{Registration, Persistent}
use Rattle.card_state.specs.Sections.{is_code}
use Rattle.card_state.specs.States.{registration_of, rows_of}
use Rattle.card_state.specs.Changing.{with_row_on}
use Rattle.card_state.specs.Fitting.{FitsOnShelf}
use Rattle.layout_laws.specs.StandingLaws.{NoOtherHasCallControl}
use Rattle.card_commits.specs.Entries.{row_at, with_row_at}

-- what a table tells of rows, as a state that has no more
abbrev pub rows_alone : Loaded → Persistent
rows_alone table = record { is_wide = table.wide; files = []; pins = []; rows = rows_of table; next_sequence = table.next }

-- A row that may be installed: it has the next sequence number, of which one is left, and there is room for it among the
-- others.
pub record MayInstall (table : Loaded) (shelf : ℕ) (row : Row) : Type 0 where
  pub used : row.used ≡ true
  pub left : table.next < 65535
  pub fits : FitsOnShelf (record (rows_alone table) { next_sequence = table.next + 1 }) (registration_of shelf row)
  pub events : row.events < 4096

-- nothing but the events of the row on this shelf may be others
abbrev pub ChangesEvents : Loaded → ℕ → Loaded → Type 0
ChangesEvents old shelf new = new ≡ with_row_at old shelf (record (row_at old shelf) { events = (row_at new shelf).events })

-- with this row, which took the next sequence number
abbrev pub with_row_installed : Registration → Persistent → Persistent
with_row_installed row state = record (with_row_on state row.shelf (Some row)) { next_sequence = state.next_sequence + 1 }

-- without the row on this shelf
abbrev pub without_row_on : ℕ → Persistent → Persistent
without_row_on shelf state = with_row_on state shelf None

-- an event that a row may be registered for: call control only where no other row has it
abbrev pub MayRegister : Loaded → ℕ → ℕ → Type 0
MayRegister table shelf code = IsTrue (is_code code) × ((code ≢ call_control_code) ⊎ NoOtherHasCallControl table shelf)
