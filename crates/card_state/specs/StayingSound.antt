-- Which changes leave a state sound.
use Rattle.std.specs.Prelude.{◌≡◌, ◌≢◌, ℕ, ◌≤◌, Some, None, All}
use Rattle.card_state.specs.Persistent.{File, Registration, Persistent}
use Rattle.card_state.specs.Soundness.{IsSound}
use Rattle.card_state.specs.Changing.{with_file_at, with_row_on}
use Rattle.card_state.specs.Fitting.{FitsAmong, IsFileAnew, FitsOnShelf, IsRowAnew}

-- a sound state stays sound with one more file that fits among its own
abbrev pub FileFits : Type 0
FileFits = (state : Persistent) (number : ℕ) (file : File) → IsSound state → file.number ≡ number → FitsAmong state file → IsSound (with_file_at state number (Some file))

-- a file other than the MF, in which no file lies
abbrev pub FileMayGo : Type 0
FileMayGo = (state : Persistent) (number : ℕ) → IsSound state → number ≢ 0 → All (λ other. other.parent ≢ number) state.files → IsSound (with_file_at state number None)

-- a sound state stays sound where an EF gets another life cycle status or another rule
abbrev pub FileAnewFits : Type 0
FileAnewFits = (state : Persistent) (number : ℕ) (old file : File) → IsSound state → old.number ≡ number → IsFileAnew state old file → IsSound (with_file_at state number (Some file))

-- a sound state stays sound with one more row that fits on its shelf
abbrev pub RowFits : Type 0
RowFits = (state : Persistent) (shelf : ℕ) (row : Registration) → IsSound state → row.shelf ≡ shelf → FitsOnShelf state row → IsSound (with_row_on state shelf (Some row))

-- a row that takes a sequence number below the next one
abbrev pub InstalledRowFits : Type 0
InstalledRowFits =
    (state : Persistent) (shelf next : ℕ) (row : Registration) → IsSound state → row.shelf ≡ shelf → state.next_sequence ≤ next → FitsOnShelf (record state { next_sequence = next }) row
    → IsSound (record (with_row_on state shelf (Some row)) { next_sequence = next })

-- a sound state stays sound where a row has other codes or other kept bytes
abbrev pub RowAnewFits : Type 0
RowAnewFits = (state : Persistent) (shelf : ℕ) (old row : Registration) → IsSound state → old.shelf ≡ shelf → IsRowAnew state old row → IsSound (with_row_on state shelf (Some row))

-- a sound state stays sound without a row
abbrev pub RowMayGo : Type 0
RowMayGo = (state : Persistent) (shelf : ℕ) → IsSound state → IsSound (with_row_on state shelf None)
