-- What the calls test of a row, and what they answer.
use Rattle.std.specs.Prelude.{◌≡◌, ◌<◌, false, ℕ, ◌==◌, not, ◌&&◌, Bool, Result, Ok, Err}
use Rattle.card_state.specs.declared.entries.Row.{Row}
use Rattle.card_state.specs.declared.entries.Loaded.{Loaded}
use Rattle.card_state.specs.Persistent.{Registration}
use Rattle.card_state.specs.Sections.{needs_wide, is_call_control}
use Rattle.card_state.specs.States.{registration_of, rows_of}
use Rattle.toolkit_model.specs.declared.faults.RowFault.{RowFault}
use Rattle.toolkit_model.specs.Registry.{is_taken, is_menu_full, last_sequence}

-- a row that is to answer call control
unfoldable pub answers_calls : Row → Bool
answers_calls row = is_call_control (registration_of 0 row)

-- an entry that is used, of another shelf, and is to answer it
abbrev pub answers_beside : ℕ → ℕ → Row → Bool
answers_beside shelf other row = row.used && (not (other == shelf) && answers_calls row)

-- a row that may stand on this shelf beside the others: nothing is against it, and a sequence number is left
pub record IsAdmitted (loaded : Loaded) (shelf : ℕ) (row : Row) : Type 0 where
  pub width : (needs_wide (registration_of shelf row) && not loaded.wide) ≡ false
  pub free : is_taken (rows_of loaded) (registration_of shelf row) ≡ false
  pub menu : is_menu_full (rows_of loaded) (registration_of shelf row) ≡ false
  pub left : loaded.next < last_sequence

-- a row for this shelf as the registration that it stands for, or why there is none
abbrev pub registration_for : ℕ → Result Row RowFault → Result Registration RowFault
registration_for shelf (Ok row) = Ok (registration_of shelf row)
registration_for shelf (Err fault) = Err fault

-- whether it was found, and if not, why not
abbrev pub allowed : Result Registration RowFault → Result Unit RowFault
allowed (Ok row) = Ok tt
allowed (Err fault) = Err fault
