-- Why no more lines of a script are read after `start`, whatever the card makes of them.
use Rattle.std.specs.Prelude.{◌≡◌, ℕ, Bool, false, List, [], ◌∷◌, Option, Some, None, Result, Ok, Err}
use Rattle.byte_streams.specs.Lines.{LineList}
use Rattle.byte_streams.specs.Reading.{IsTextCutShort, IsReadOut}
use Rattle.script_form.specs.Forms.{IsLine}
use Rattle.script_form.specs.declared.lines.ScriptLine.{ScriptLine}
use Rattle.script_reader.specs.Reading.{Finds, GoesOn}
use Rattle.script_reader.specs.declared.behind.PlayEnd.{PlayEnd}
use Rattle.script_reader.specs.declared.behind.PlayEnd.TheVariants.{Finished, BadLine, ReadFailed, SinkFailed, ResetFailed}
use Rattle.script_reader.specs.declared.faults.ScriptFault.{ScriptFault}
use Rattle.script_reader.specs.declared.faults.ScriptFault.TheVariants as fault
use Rattle.script_reader.specs.declared.reader.ScriptReader.{ScriptReader}

-- the next line is in no form, or may not stand after `start`
abbrev pub IsBadBehind : (ScriptLine → Bool) → LineList → Type 0
IsBadBehind may [] = ⊥
IsBadBehind may (None ∷ more) = Unit {0}
IsBadBehind may (Some bytes ∷ more) = (line : ScriptLine) → IsLine bytes line → may line ≡ false

-- why no more lines are read
abbrev pub StopsReading : (ScriptLine → Bool) → List ℕ → LineList → Option (List ℕ) → PlayEnd → Type 0
StopsReading may text found left Finished = IsReadOut text found left
StopsReading may text found left (BadLine number) = GoesOn text found left (IsBadBehind may) number
StopsReading may text found left ReadFailed = IsTextCutShort text found left
StopsReading may text found left SinkFailed = ⊥
StopsReading may text found left ResetFailed = ⊥

-- why a script is read no further
abbrev pub end_for : ScriptFault → PlayEnd
end_for (fault.BadLine number) = BadLine number
end_for (fault.NoRoom number) = BadLine number
end_for fault.ReadFailed = ReadFailed

-- what the search for a line after `start` comes to: it is in its place then, or no more lines are read
abbrev pub GivesLine : (ScriptLine → Bool) → List ℕ → LineList → ScriptReader → Option (List ℕ) → ScriptLine → Result (Unit {0}) PlayEnd → Type 0
GivesLine may text found script left line (Ok done) = Finds text found script left line
GivesLine may text found script left line (Err end) = StopsReading may text found left end
