-- What the lines of a script say together before `start`: the card that they describe.
use Rattle.std.specs.Prelude.{List, [], ◌∷◌, Option, Some, None, Result, Ok, Err}
use Rattle.script_form.specs.declared.lines.ScriptLine.{ScriptLine}
use Rattle.script_form.specs.declared.lines.ScriptLine.TheVariants.{Passed, Df, Transparent, Linear, Cyclic, Fill, Rec, Pin, Row}
use Rattle.card_state.specs.NewFiles.{rule_from}
use Rattle.card_state.specs.Persistent.{Persistent}
use Rattle.card_state.specs.Sections.{line_added, DfLine, EfLine, FillLine, RecordLine, PinLine, RowLine}
use Rattle.card_state.specs.declared.faults.SectionFault.{SectionFault}
use Rattle.card_state.specs.declared.faults.SectionFault.TheVariants.{Bad}
use Rattle.card_state.specs.declared.shapes.Shape.TheVariants as shape
use Rattle.applet_trait.specs.Minds.{AppletState, kind_on}

-- the state with the EF that a line describes, or why there is none
abbrev pub ef_described : Persistent → ScriptLine → Result Persistent SectionFault
ef_described state (Transparent path size short rule) = line_added state (EfLine path (shape.Transparent size) short (rule_from rule))
ef_described state (Linear path length count short rule) = line_added state (EfLine path (shape.Linear length count) short (rule_from rule))
ef_described state (Cyclic path length count short rule) = line_added state (EfLine path (shape.Cyclic length count) short (rule_from rule))
ef_described state _ = Err Bad

-- the state with what a line says of files, or why there is none
abbrev pub file_described : Persistent → ScriptLine → Result Persistent SectionFault
file_described state (Df path) = line_added state (DfLine path)
file_described state (Fill path offset bytes) = line_added state (FillLine path offset bytes)
file_described state (Rec path number bytes) = line_added state (RecordLine path number bytes)
file_described state line = ef_described state line

-- the same of any line; a row's applet is of the kind of the box on its shelf
abbrev pub described : List (Option AppletState) → Persistent → ScriptLine → Result Persistent SectionFault
described cast state Passed = Ok state
described cast state (Pin key value enabled unblock) = line_added state (PinLine key value.0 enabled unblock.0)
described cast state (Row shelf priority content) = line_added state (RowLine shelf priority content (kind_on cast shelf))
described cast state line = file_described state line

-- what goes on with what an earlier step came to, or stops at its fault
abbrev pub then_on : {A B E : Type 0} → (A → Result B E) → Result A E → Result B E
then_on next (Ok value) = next value
then_on next (Err fault) = Err fault

-- the same of a script that describes a card, or of one that describes none
abbrev pub with_line : List (Option AppletState) → Option Persistent → ScriptLine → Result (Option Persistent) SectionFault
with_line cast (Some state) line = then_on (λ new. Ok (Some new)) (described cast state line)
with_line cast None Passed = Ok None
with_line cast None line = Err Bad

-- the card with what these lines add to it, one after the other
abbrev pub with_lines : List (Option AppletState) → Option Persistent → List ScriptLine → Result (Option Persistent) SectionFault
with_lines cast card [] = Ok card
with_lines cast card (line ∷ more) = then_on (λ next. with_lines cast next more) (with_line cast card line)
