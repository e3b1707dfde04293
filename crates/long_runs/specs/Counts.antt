-- What is counted in the lines of a trace.
use Rattle.std.specs.Prelude.{ℕ, ◌-◌, ◌^◌, min, Bool, true, false, ◌==◌, ◌&&◌, List, [], ◌∷◌, count_by}
use Rattle.script_form.specs.declared.handset.Note.{Note as ANote}
use Rattle.script_form.specs.declared.handset.Note.TheVariants as note
use Rattle.script_form.specs.declared.trace.TraceLine.{TraceLine}
use Rattle.script_form.specs.declared.trace.TraceLine.TheVariants.{Command, Note}
use Rattle.long_runs.specs.declared.counts.Counts.{Counts}

-- the bytes of a command begin with the toolkit's class on the basic channel and this instruction (ETSI TS 102 221, 10.1)
abbrev pub has_instruction : ℕ → List ℕ → Bool
has_instruction code [] = false
has_instruction code (class ∷ []) = false
has_instruction code (class ∷ instruction ∷ others) = (class == 0x80) && (instruction == code)

-- the instruction byte of FETCH (ETSI TS 102 221, 10.1.2)
abbrev pub fetch : ℕ
fetch = 0x12

-- the instruction byte of TERMINAL RESPONSE
abbrev pub terminal_response : ℕ
terminal_response = 0x14

-- the instruction byte of ENVELOPE
abbrev pub envelope : ℕ
envelope = 0xC2

-- the line is a command to the card
abbrev pub is_command : TraceLine → Bool
is_command (Command apdu) = true
is_command _ = false

-- the line is a command of the toolkit with this instruction byte
abbrev pub is_toolkit_command : ℕ → TraceLine → Bool
is_toolkit_command code (Command apdu) = has_instruction code apdu
is_toolkit_command code _ = false

-- the note says that the card was busy
abbrev pub is_busy_note : ANote → Bool
is_busy_note note.Busy = true
is_busy_note _ = false

-- the line is such a note
abbrev pub is_busy : TraceLine → Bool
is_busy (Note noted) = is_busy_note noted
is_busy _ = false

-- a count stands still at the end of its type
abbrev pub capped : ℕ → ℕ
capped count = min count (2 ^ 64 - 1)

-- the counts of these lines
unfoldable pub counts_of : List TraceLine → Counts
counts_of lines = record {
  commands = capped (count_by is_command lines);
  fetches = capped (count_by (is_toolkit_command fetch) lines);
  responses = capped (count_by (is_toolkit_command terminal_response) lines);
  envelopes = capped (count_by (is_toolkit_command envelope) lines);
  busy = capped (count_by is_busy lines);
}
