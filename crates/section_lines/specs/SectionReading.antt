-- Where the reading of a script stands between two lines, and what ends it before `start`.
use Rattle.std.specs.Prelude.{◌≡◌, ℕ, ◌+◌, List, [], ◌∷◌, ◌++◌, Bool, true, false, Option, Some, None, Result, Ok, Err}
use Rattle.byte_streams.specs.Lines.{LineList, lines}
use Rattle.byte_streams.specs.Reading.{IsTextCutShort, IsTakenFor}
use Rattle.script_form.specs.Forms.{IsLine}
use Rattle.script_form.specs.Reads.{IsOnly}
use Rattle.script_form.specs.declared.lines.ScriptLine.{ScriptLine}
use Rattle.script_form.specs.declared.lines.ScriptLine.TheVariants.{Start}
use Rattle.script_reader.specs.Said.{AreRead}
use Rattle.script_reader.specs.declared.faults.ScriptFault.{ScriptFault}
use Rattle.script_reader.specs.declared.faults.ScriptFault.TheVariants.{BadLine, NoRoom, ReadFailed}
use Rattle.script_reader.specs.declared.reader.ScriptReader.{ScriptReader}
use Rattle.script_reader.specs.Reading.{Follows, GoesOn, reading}
use Rattle.card_state.specs.Persistent.{Persistent}
use Rattle.card_state.specs.declared.faults.SectionFault.{SectionFault}
use Rattle.card_state.specs.declared.faults.SectionFault.TheVariants.{Bad, NoRoom as has_no_room}
use Rattle.applet_trait.specs.Minds.{AppletState}
use Rattle.section_lines.specs.Script.{with_line, with_lines}

-- ---- before `start`

-- only lines before `start` have been read, and what they describe is this
pub record InSection (cast : List (Option AppletState)) (first : Option Persistent) (text : List ℕ) (script : ScriptReader) (left : Option (List ℕ)) (card : Option Persistent) : Type 0 where
  pub section : List ScriptLine
  pub given : LineList
  pub read : AreRead given section
  pub described : with_lines cast first section ≡ Ok card
  pub follows : Follows text given script left

-- Of this text no more was taken than it needs to know the last of these lines, but for the rest of the last piece.
pub record IsTakenForLast (text : List ℕ) (given : LineList) (left : Option (List ℕ)) : Type 0 where
  pub before : LineList
  pub last : Option (List ℕ)
  pub parted : given ≡ before ++ last ∷ []
  pub reach : IsTakenFor text before left

-- `start` was read after them, and no more was taken than it needs, but for the rest of the last piece
pub record AtStart (cast : List (Option AppletState)) (first : Option Persistent) (text : List ℕ) (script : ScriptReader) (left : Option (List ℕ)) (card : Option Persistent) : Type 0 where
  pub section : List ScriptLine
  pub given : LineList
  pub read : AreRead given (section ++ Start ∷ [])
  pub described : with_lines cast first section ≡ Ok card
  pub follows : Follows text given script left
  pub reach : IsTakenForLast text given left

-- the line is not `start`, and may not stand here, or breaks what the lines before it ask for (an identifier twice, more bytes than the file has)
abbrev pub IsOutOfPlace : List (Option AppletState) → Option Persistent → ScriptLine → Type 0
IsOutOfPlace cast card line = (line ≡ Start → ⊥) × (with_line cast card line ≡ Err Bad)

-- what comes next is bad: a line in no form, one that may not stand here, or the end before `start`
abbrev pub IsBadHere : List (Option AppletState) → Option Persistent → LineList → Type 0
IsBadHere cast card [] = Unit {0}
IsBadHere cast card (None ∷ more) = Unit {0}
IsBadHere cast card (Some bytes ∷ more) = (line : ScriptLine) → IsLine bytes line → IsOutOfPlace cast card line

-- there is no room for what the next line describes
abbrev pub IsTooMuchHere : List (Option AppletState) → Option Persistent → LineList → Type 0
IsTooMuchHere cast card [] = ⊥
IsTooMuchHere cast card (None ∷ more) = ⊥
IsTooMuchHere cast card (Some bytes ∷ more) = (line : ScriptLine) × IsOnly (IsLine bytes) line × (with_line cast card line ≡ Err has_no_room)

-- why reading ended before `start`
abbrev pub StopsAt : List (Option AppletState) → List ℕ → LineList → Option Persistent → Option (List ℕ) → ScriptFault → Type 0
StopsAt cast text given card left (BadLine number) = GoesOn text given left (IsBadHere cast card) number
StopsAt cast text given card left (NoRoom number) = GoesOn text given left (IsTooMuchHere cast card) number
StopsAt cast text given card left ReadFailed = IsTextCutShort text given left

-- reading ended before `start`: what the lines before described, and why no more was read
pub record EndsInSection (cast : List (Option AppletState)) (first : Option Persistent) (text : List ℕ) (left : Option (List ℕ)) (fault : ScriptFault) : Type 0 where
  pub section : List ScriptLine
  pub given : LineList
  pub card : Option Persistent
  pub read : AreRead given section
  pub described : with_lines cast first section ≡ Ok card
  pub cause : StopsAt cast text given card left fault

-- what a line of the section is for the card: `start`, something that is added, or a fault that changes nothing
abbrev pub IsAdded : List (Option AppletState) → Option Persistent → ScriptLine → Option Persistent → Result Bool SectionFault → Type 0
IsAdded cast old line new (Ok true) = (line ≡ Start) × (new ≡ old)
IsAdded cast old line new (Ok false) = with_line cast old line ≡ Ok new
IsAdded cast old line new (Err fault) = (line ≡ Start → ⊥) × (with_line cast old line ≡ Err fault) × (new ≡ old)

-- what reading one line of the section comes to: whether it was `start`
abbrev pub GivesSectionLine : List (Option AppletState) → Option Persistent → List ℕ → ScriptReader → Option (List ℕ) → Option Persistent → Result Bool ScriptFault → Type 0
GivesSectionLine cast first text script left card (Ok true) = AtStart cast first text script left card
GivesSectionLine cast first text script left card (Ok false) = InSection cast first text script left card
GivesSectionLine cast first text script left card (Err fault) = EndsInSection cast first text left fault

-- what reading the section comes to
abbrev pub GivesSection : List (Option AppletState) → Option Persistent → List ℕ → ScriptReader → Option (List ℕ) → Option Persistent → Result (Unit {0}) ScriptFault → Type 0
GivesSection cast first text script left card (Ok done) = AtStart cast first text script left card
GivesSection cast first text script left card (Err fault) = EndsInSection cast first text left fault
