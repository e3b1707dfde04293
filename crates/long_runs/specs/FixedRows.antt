-- The applets that are registered on the card for a long script.
use Rattle.std.specs.Prelude.{List, [], ◌∷◌, codes}
use Rattle.script_form.specs.declared.lines.ScriptLine.{ScriptLine}
use Rattle.script_form.specs.declared.lines.ScriptLine.TheVariants.{Row}

-- a menu with one entry, and applets that hear of events, of a shelf, a priority and the data of their installation each
abbrev pub fixed_rows : List ScriptLine
fixed_rows =
    Row 1 1 (0x00 ∷ 0x04 ∷ codes "Menu")
    ∷ Row 2 1 (0x01 ∷ 0x40 ∷ 0x00 ∷ [])
    ∷ Row 3 1 (0x02 ∷ 0x03 ∷ 0x04 ∷ 0x00 ∷ [])
    ∷ Row 5 2 (0x01 ∷ 0x40 ∷ 0x04 ∷ codes "Note")
    ∷ Row 6 1 (0x01 ∷ 0x41 ∷ 0x00 ∷ 0x41 ∷ 0x01 ∷ 0x41 ∷ [])
    ∷ []
