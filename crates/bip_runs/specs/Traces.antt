-- What is shown of what happens to a terminal that begins with no channel open: computed from the channels as they are told by all
-- their bytes.
use Rattle.std.specs.List.{flat_map}
use Rattle.std.specs.Prelude.{ℕ, List, [], ◌∷◌, ◌++◌, reverse, Option, Some, None}
use Rattle.script_form.specs.Traces.{trace_text}
use Rattle.script_form.specs.declared.lines.ScriptLine.{ScriptLine}
use Rattle.script_form.specs.declared.trace.TraceLine.{TraceLine}
use Rattle.script_form.specs.declared.trace.TraceLine.TheVariants.{Command, Response, Event}
use Rattle.bip_channels.specs.Channels.{BipChannel, answered, echoed, cut}
use Rattle.bip_channels.specs.Traffic.{Occurrence, Commands, Echoes, Cuts, channels_after}
use Rattle.bip_runs.specs.Parts.{occurrences_of}

-- a command and its response
abbrev pub command_lines : List ℕ → List ℕ → List TraceLine
command_lines bytes response = Command bytes ∷ Response response ∷ []

-- the event that the card is told of, if there is one
abbrev pub event_lines : Option (List ℕ) → List TraceLine
event_lines None = []
event_lines (Some bytes) = Event bytes ∷ []

-- what is shown where the channels are these
abbrev pub lines_of : Occurrence → List (Option BipChannel) → List TraceLine
lines_of (Commands bytes) channels = command_lines bytes (answered bytes channels).response
lines_of (Echoes number count) channels = event_lines (echoed number count channels).event
lines_of (Cuts number) channels = event_lines (cut number channels).event

-- the text of these lines of the trace
abbrev pub text_of : List TraceLine → List ℕ
text_of lines = flat_map trace_text lines

-- the text that is shown of all that happened, whose newest thing comes first here and last in the text
abbrev pub shown : List Occurrence → List ℕ
shown [] = []
shown (newest ∷ earlier) = shown earlier ++ text_of (lines_of newest (channels_after earlier))

-- all that happens by these lines, the newest first
abbrev pub history : List ScriptLine → List Occurrence
history said = reverse (flat_map occurrences_of said)

-- the trace of these lines
abbrev pub trace_of : List ScriptLine → List ℕ
trace_of said = shown (history said)
