-- Where the run of a terminal stands between two lines of its script, and what a line comes to. A whole run is told without it.
use Rattle.std.specs.Io.KnownBytes.{append_known}
use Rattle.std.specs.Prelude.{◌≡◌, ℕ, List, Option, Result, Ok, Err}
use Rattle.byte_streams.specs.Lines.{LineList}
use Rattle.script_form.specs.declared.lines.ScriptLine.{ScriptLine}
use Rattle.script_reader.specs.Reading.{Follows, Finds}
use Rattle.script_reader.specs.declared.behind.PlayEnd.{PlayEnd}
use Rattle.script_reader.specs.declared.reader.ScriptReader.{ScriptReader}
use Rattle.bip_channels.specs.Kept.{Held, IsKept}
use Rattle.bip_channels.specs.Traffic.{Occurrence, Commands, Echoes, Cuts, channels_after}
use Rattle.bip_runs.specs.Parts.{Part, Blank, Begins, Does, Foreign}
use Rattle.bip_runs.specs.Serving.{AreReadInPlace, Stops, BipComesTo}
use Rattle.bip_runs.specs.Traces.{history, trace_of}
use Rattle.bip_runs.specs.declared.effects.Effect.{Effect}
use Rattle.bip_runs.specs.declared.effects.Effect.TheVariants.{Nothing, Starts, Happens, OutOfPlace}
use Rattle.bip_runs.specs.declared.effects.Happening.{Happening}
use Rattle.bip_runs.specs.declared.effects.Happening.TheVariants as happening
use Rattle.bip_runs.specs.declared.effects.Place.{Place}

-- what happens to the terminal by a line that was read
abbrev pub occurrence_for : Happening → Occurrence
occurrence_for (happening.Command bytes) = Commands bytes.now
occurrence_for (happening.Echo channel count) = Echoes channel count
occurrence_for (happening.Lost channel) = Cuts channel

-- what a line that was read is for the terminal
abbrev pub part_for : Effect → Part
part_for Nothing = Blank
part_for Starts = Begins
part_for (Happens what) = Does (occurrence_for what)
part_for OutOfPlace = Foreign

-- The lines that were read have been carried out: the terminal keeps what comes of them, and the sink has taken their trace.
pub record IsServing (text : List ℕ) (before : Option (List ℕ)) (place : Place) (script : ScriptReader) (left taken : Option (List ℕ)) (held : List Held) : Type 0 where
  pub found : LineList
  pub said : List ScriptLine
  pub lines_are : AreReadInPlace found said place
  pub follows : Follows text found script left
  pub kept : IsKept (channels_after (history said)) held
  pub written : taken ≡ append_known before (trace_of said)

-- what a search for the next line comes to: it is there, or no more are read
abbrev pub GivesLine : Place → List ℕ → LineList → ScriptReader → Option (List ℕ) → ScriptLine → Result (Unit {0}) PlayEnd → Type 0
GivesLine place text found script left line (Ok done) = Finds text found script left line
GivesLine place text found script left line (Err end) = Stops place text found left end

-- what a line comes to: it was carried out, or the run ends
abbrev pub GivesServed : List ℕ → Option (List ℕ) → Place → ScriptReader → Option (List ℕ) → Option (List ℕ) → List Held → Result (Unit {0}) PlayEnd → Type 0
GivesServed text before place script left taken held (Ok done) = IsServing text before place script left taken held
GivesServed text before place script left taken held (Err end) = BipComesTo text before left taken end
