-- What a line of the script is for a terminal, and where lines may stand.
use Rattle.std.specs.Prelude.{List, [], ◌∷◌, Option, Some, None, option_and_then}
use Rattle.script_form.specs.declared.lines.ScriptLine.{ScriptLine}
use Rattle.script_form.specs.declared.lines.ScriptLine.TheVariants.{Passed, Start, Cmd, Echo, Lose}
use Rattle.bip_channels.specs.Traffic.{Occurrence, Commands, Echoes, Cuts}
use Rattle.bip_runs.specs.declared.effects.Place.{Place}
use Rattle.bip_runs.specs.declared.effects.Place.TheVariants.{Before, Behind}

-- it does nothing, it is `start`, this happens, or it may stand nowhere
pub data Part : Type 0 where
  Blank : Part
  Begins : Part
  Does : Occurrence → Part
  Foreign : Part

-- what a line is here: `cmd`, `net echo` and `net drop` are what happens to the terminal
abbrev pub part_of : ScriptLine → Part
part_of Passed = Blank
part_of Start = Begins
part_of (Cmd bytes) = Does (Commands bytes)
part_of (Echo channel count) = Does (Echoes channel count)
part_of (Lose channel) = Does (Cuts channel)
part_of line = Foreign

-- what happens by a part
abbrev pub occurrences : Part → List Occurrence
occurrences (Does one) = one ∷ []
occurrences part = []

-- what happens by a line
abbrev pub occurrences_of : ScriptLine → List Occurrence
occurrences_of line = occurrences (part_of line)

-- ---- where lines may stand

-- where the script goes on after a part, if it may stand here: up to the first `start` that alone, and then what happens
abbrev pub step : Place → Part → Option Place
step Before Blank = Some Before
step Before Begins = Some Behind
step Before (Does one) = None
step Before Foreign = None
step Behind Blank = Some Behind
step Behind Begins = None
step Behind (Does one) = Some Behind
step Behind Foreign = None

-- after a line
abbrev pub moved : Place → ScriptLine → Option Place
moved place line = step place (part_of line)

-- after these lines, if each is in its place
abbrev pub moved_by : Place → List ScriptLine → Option Place
moved_by place [] = Some place
moved_by place (line ∷ more) = option_and_then (λ next. moved_by next more) (moved place line)
