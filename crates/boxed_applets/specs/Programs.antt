-- What the code has of a row.
use Rattle.std.specs.Prelude.{◌≡◌, ℕ, ◌+◌, List, ◌∷◌, length}
use Rattle.applet_trait.specs.Tables as Tables
use Rattle.applet_trait.specs.Tables.{rows}
use Rattle.boxed_applets.specs.declared.programs.ProgramRow.{ProgramRow}

-- a row of a table applet as the definitions have it
abbrev pub row_of : ProgramRow → Tables.ActionRow
row_of row = record { event = row.event; action = row.action; argument = row.argument }

-- the same with its place
abbrev pub placed : ℕ × ProgramRow → ℕ × Tables.ActionRow
placed (place, row) = (place, row_of row)

-- the bytes are a row and others
pub record IsFirst (bytes : List ℕ) (row : ProgramRow) (others : List ℕ) : Type 0 where
  pub whole : rows bytes ≡ row_of row ∷ rows others
  pub shorter : length others + 3 ≡ length bytes
