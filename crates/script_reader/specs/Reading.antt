-- Where the reading of a script stands between two lines.
use Rattle.std.specs.Prelude.{◌≡◌, ℕ, ◌+◌, List, [], ◌∷◌, ◌++◌, Bool, true, false, length, Option, Some, None, Result, Ok, Err}
use Rattle.byte_streams.specs.Lines.{LineList, lines}
use Rattle.byte_streams.specs.Reading.{Reading, HasRead, IsTextCutShort, IsReadOut, IsTakenFor}
use Rattle.script_form.specs.Forms.{IsLine}
use Rattle.script_form.specs.Reads.{IsOnly}
use Rattle.script_form.specs.declared.lines.ScriptLine.{ScriptLine}
use Rattle.script_reader.specs.declared.faults.ScriptFault.{ScriptFault}
use Rattle.script_reader.specs.declared.faults.ScriptFault.TheVariants.{BadLine, NoRoom, ReadFailed}
use Rattle.script_reader.specs.declared.reader.ScriptReader.{ScriptReader}

-- where the reader of lines stands
abbrev pub reading : ScriptReader → Reading
reading script = script.reader

-- how many lines were handed out
abbrev pub line_count : ScriptReader → ℕ
line_count script = script.number

-- how many bytes the lines to come may take up
abbrev pub room_of : ScriptReader → ℕ
room_of script = script.reader.room

-- these lines of the text were handed out, and are counted
pub record Follows (text : List ℕ) (given : LineList) (script : ScriptReader) (left : Option (List ℕ)) : Type 0 where
  pub reads : HasRead text given script.reader left
  pub counts : script.number ≡ length given

-- one more line was handed out, which says this and nothing else
pub record Finds (text : List ℕ) (given : LineList) (script : ScriptReader) (left : Option (List ℕ)) (line : ScriptLine) : Type 0 where
  pub bytes : List ℕ
  pub more : LineList
  pub parted : lines text ≡ given ++ Some bytes ∷ more
  pub read : IsOnly (IsLine bytes) line
  pub counts : script.number ≡ length given + 1
  pub reach : IsTakenFor text given left
  pub follows : Follows text (given ++ Some bytes ∷ []) script left

-- the next line is in no form, or too long
abbrev pub IsUnread : LineList → Type 0
IsUnread [] = ⊥
IsUnread (None ∷ more) = Unit {0}
IsUnread (Some bytes ∷ more) = (line : ScriptLine) → IsLine bytes line → ⊥

-- The lines of the text go on so, and this is the number of the next one; no more was taken than it needs to know that.
pub record GoesOn (text : List ℕ) (given : LineList) (left : Option (List ℕ)) (Next : LineList → Type 0) (number : ℕ) : Type 0 where
  pub next : LineList
  pub parted : lines text ≡ given ++ next
  pub is : Next next
  pub counted : number ≡ length given + 1
  pub reach : IsTakenFor text given left

-- what a search for the next line comes to: whether there is one, which is then in its place
abbrev pub GivesNext : List ℕ → LineList → ScriptReader → Option (List ℕ) → ScriptLine → Result Bool ScriptFault → Type 0
GivesNext text given script left line (Ok true) = Finds text given script left line
GivesNext text given script left line (Ok false) = IsReadOut text given left × (script.number ≡ length given)
GivesNext text given script left line (Err (BadLine number)) = GoesOn text given left IsUnread number
GivesNext text given script left line (Err (NoRoom number)) = ⊥
GivesNext text given script left line (Err ReadFailed) = IsTextCutShort text given left
