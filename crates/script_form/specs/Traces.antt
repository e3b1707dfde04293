-- The text of a trace.
use Rattle.std.specs.Io.KnownBytes.{append_known}
use Rattle.std.specs.Prelude.{◌≡◌, ℕ, List, [], ◌∷◌, ◌++◌, codes, cond, decimal, map, Option, Result, OnOk, OnErr}
use Rattle.hex.specs.Hex.{encode_upper}
use Rattle.uicc_types.specs.Answers.{answer_bytes}
use Rattle.uicc_types.specs.Told.{Becomes}
use Rattle.byte_streams.specs.Streams.{TakesFront}
use Rattle.byte_streams.specs.declared.streams.Failed.{Failed}
use Rattle.script_form.specs.Values.{is_printable}
use Rattle.script_form.specs.declared.handset.Note.{Note as ANote}
use Rattle.script_form.specs.declared.handset.Note.TheVariants as note
use Rattle.script_form.specs.declared.trace.TraceLine.{TraceLine}
use Rattle.script_form.specs.declared.trace.TraceLine.TheVariants.{Command, Answer, Cut, Off, Reset, Note, Response, Event, Usage, Line, ReadFailed, NoMemory, EepromFailed, NotACard, NoApplet, Counts}

-- a byte of a text as it is shown: one that isn't printable as a dot
abbrev pub shown : ℕ → ℕ
shown byte = cond (is_printable byte) byte 46

-- what a handset notes, a row for each kind
abbrev pub note_text : ANote → List ℕ
note_text (note.Text text) = codes "* text " ++ map shown text
note_text (note.Ask text) = codes "* ask " ++ map shown text
note_text (note.Choose count) = codes "* choose " ++ decimal count
note_text (note.Menu count) = codes "* menu " ++ decimal count
note_text (note.Tone tone) = codes "* tone " ++ encode_upper (tone ∷ [])
note_text (note.Idle text) = codes "* idle " ++ map shown text
note_text note.Call = codes "* call"
note_text note.Barred = codes "* barred"
note_text note.Busy = codes "* busy"

-- what a line of a trace says, a row for each kind
abbrev pub message : TraceLine → List ℕ
message (Command apdu) = codes "> " ++ encode_upper apdu
message (Answer answer) = codes "< " ++ encode_upper (answer_bytes answer)
message Cut = codes "! cut"
message Off = codes "! off"
message Reset = codes "! reset"
message (Note note) = note_text note
message (Response bytes) = codes "< " ++ encode_upper bytes
message (Event event) = codes "* event " ++ encode_upper event
message Usage = codes "usage"
message (Line number) = codes "line " ++ decimal number
message ReadFailed = codes "read failed"
message NoMemory = codes "no memory"
message EepromFailed = codes "eeprom failed"
message (NotACard at) = codes "not a card " ++ decimal at
message (NoApplet shelf) = codes "no applet " ++ decimal shelf
message (Counts lines commands fetches responses envelopes busy) =
    codes "lines " ++ decimal lines ++ codes " commands " ++ decimal commands ++ codes " fetches " ++ decimal fetches
    ++ codes " responses " ++ decimal responses ++ codes " envelopes " ++ decimal envelopes ++ codes " busy " ++ decimal busy

-- the line as it is written, with its end
unfoldable pub trace_text : TraceLine → List ℕ
trace_text line = message line ++ 10 ∷ []

-- a text was taken whole, or after a failure its beginning
abbrev pub IsPut : List ℕ → Option (List ℕ) → Option (List ℕ) → Result (Unit {0}) Failed → Type 0
IsPut text before after result = OnOk result (after ≡ append_known before text) × OnErr result (Becomes (TakesFront text) before after)
