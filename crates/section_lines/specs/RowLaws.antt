-- Each row that a section describes is of the kind of the box on its shelf.
use Rattle.std.specs.Prelude.{All, ◌≡◌, List, Option, Some, Ok}
use Rattle.script_form.specs.declared.lines.ScriptLine.{ScriptLine}
use Rattle.card_state.specs.Persistent.{Registration, Persistent}
use Rattle.applet_trait.specs.Minds.{AppletState, kind_on}
use Rattle.section_lines.specs.Script.{with_lines}

-- there is a box on the row's shelf, and the row is of its kind
abbrev pub IsOfItsBox : List (Option AppletState) → Registration → Type 0
IsOfItsBox cast row = kind_on cast row.shelf ≡ Some row.kind

-- each registered applet is of the kind of the box on its shelf
abbrev pub AreOfTheirBoxes : List (Option AppletState) → Persistent → Type 0
AreOfTheirBoxes cast state = All (IsOfItsBox cast) state.rows

-- lines that describe a card over one whose rows are of their boxes add no others
abbrev pub RowsHaveBoxes : Type 0
RowsHaveBoxes = (cast : List (Option AppletState)) (lines : List ScriptLine) (first state : Persistent)
    → AreOfTheirBoxes cast first → with_lines cast (Some first) lines ≡ Ok (Some state) → AreOfTheirBoxes cast state
