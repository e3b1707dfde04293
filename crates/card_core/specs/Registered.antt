-- The entries of rows that hold no applet.
use Rattle.std.specs.Prelude.{◌≡◌, false}
use Rattle.card_state.specs.declared.entries.Row.{Row}
use Rattle.card_state.specs.Blank.{unused_row}

-- a row that is not used is the empty one
abbrev pub IsUsedOrBlank : Row → Type 0
IsUsedOrBlank row = row.used ≡ false → row ≡ unused_row
