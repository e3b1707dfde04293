-- The first bytes of a line, and what they tell of it.
use Rattle.std.proofs.Common.{◌≡◌, ℕ, ◌/◌, ◌%◌, ◌<◌, Bool, true, false, ◌&&◌, List, [], ◌∷◌, ◌++◌, take, refl, ap, ◌∙◌, lit<, ◌==◌, nat_eq, codes}
use Rattle.std.specs.List.{starts_with}
use Rattle.hex.specs.Hex.{encode_with, upper_digits}
use Rattle.script_form.specs.Traces.{message}
use Rattle.script_form.specs.declared.handset.Note.{Note as ANote}
use Rattle.script_form.specs.declared.handset.Note.TheVariants as note
use Rattle.script_form.specs.declared.trace.TraceLine.{TraceLine}
use Rattle.script_form.specs.declared.trace.TraceLine.TheVariants as line
use Rattle.long_runs.specs.Counts.{fetch, terminal_response, envelope, has_instruction, is_busy, is_command, is_toolkit_command}
use Rattle.long_runs.specs.Walks.{more, counts_with}
use Rattle.long_runs.specs.declared.counts.Counts.{Counts}
use Rattle.long_runs.proofs.HexDigitValueLemmas.{byte_digits, digit}

abbrev head_of : TraceLine → List ℕ
head_of said = take 6 (message said)

-- what a line adds to the counts
abbrev pub with : TraceLine → Counts → Counts
with said counts = record {
  commands = more (is_command said) counts.commands;
  fetches = more (is_toolkit_command fetch said) counts.fetches;
  responses = more (is_toolkit_command terminal_response said) counts.responses;
  envelopes = more (is_toolkit_command envelope said) counts.envelopes;
  busy = more (is_busy said) counts.busy;
}

never_last : (a b c : Bool) → (a && (b && false)) ≡ false
never_last true true c = refl
never_last true false c = refl
never_last false b c = refl

all_four : (a b c d : Bool) → (a && (b && (c && (d && true)))) ≡ ((a && b) && (c && d))
all_four true true true true = refl
all_four true true true false = refl
all_four true true false d = refl
all_four true false c d = refl
all_four false b c d = refl

-- the digits of a toolkit command
abbrev pub toolkit_head : ℕ → List ℕ
toolkit_head code = 62 ∷ 32 ∷ digit 8 ∷ digit 0 ∷ digit (code / 16) ∷ digit (code % 16) ∷ []

command_head : (code : ℕ) (apdu : List ℕ) → code < 256 → 0 < digit (code / 16) → 0 < digit (code % 16)
    → starts_with nat_eq (take 6 (codes "> " ++ encode_with upper_digits apdu)) (toolkit_head code) ≡ has_instruction code apdu
unfolding encode_with
command_head code [] within high low = refl
command_head code (class ∷ []) within high low = never_last (digit 8 == digit (class / 16)) (digit 0 == digit (class % 16)) true
command_head code (class ∷ instruction ∷ others) within high low =
    all_four (digit 8 == digit (class / 16)) (digit 0 == digit (class % 16)) (digit (code / 16) == digit (instruction / 16)) (digit (code % 16) == digit (instruction % 16))
    ∙ ap (λ a. a && ((digit (code / 16) == digit (instruction / 16)) && (digit (code % 16) == digit (instruction % 16)))) (byte_digits 0x80 class (lit< tt) (lit< tt) (lit< tt))
    ∙ ap (λ b. (class == 0x80) && b) (byte_digits code instruction within high low)

counted : (commands fetches responses envelopes busy : Bool) (commands_then fetches_then responses_then envelopes_then busy_then : Bool) (counts : Counts)
    → commands ≡ commands_then → fetches ≡ fetches_then → responses ≡ responses_then → envelopes ≡ envelopes_then → busy ≡ busy_then
    → (let made : Counts = record { commands = more commands counts.commands; fetches = more fetches counts.fetches; responses = more responses counts.responses; envelopes = more envelopes counts.envelopes; busy = more busy counts.busy } in made)
    ≡ record { commands = more commands_then counts.commands; fetches = more fetches_then counts.fetches; responses = more responses_then counts.responses; envelopes = more envelopes_then counts.envelopes; busy = more busy_then counts.busy }
counted a b c d e a_then b_then c_then d_then e_then counts is_a is_b is_c is_d is_e = rw (is_a, is_b, is_c, is_d, is_e) refl

note_head : (noted : ANote) (counts : Counts) → counts_with (head_of (line.Note noted)) counts ≡ with (line.Note noted) counts
note_head (note.Text text) counts = refl
note_head (note.Ask text) counts = refl
note_head (note.Choose count) counts = refl
note_head (note.Menu count) counts = refl
note_head (note.Tone tone) counts = refl
note_head (note.Idle text) counts = refl
note_head note.Call counts = refl
note_head note.Barred counts = refl
note_head note.Busy counts = refl

pub line_head : (said : TraceLine) (counts : Counts) → counts_with (head_of said) counts ≡ with said counts
line_head (line.Command apdu) counts =
    counted _ _ _ _ _ true (has_instruction fetch apdu) (has_instruction terminal_response apdu) (has_instruction envelope apdu) false counts
    refl (command_head fetch apdu (lit< tt) (lit< tt) (lit< tt)) (command_head terminal_response apdu (lit< tt) (lit< tt) (lit< tt)) (command_head envelope apdu (lit< tt) (lit< tt) (lit< tt)) refl
line_head (line.Answer answer) counts = refl
line_head line.Cut counts = refl
line_head line.Off counts = refl
line_head line.Reset counts = refl
line_head (line.Note noted) counts = note_head noted counts
line_head (line.Response bytes) counts = refl
line_head (line.Event event) counts = refl
line_head line.Usage counts = refl
line_head (line.Line number) counts = refl
line_head line.ReadFailed counts = refl
line_head line.NoMemory counts = refl
line_head line.EepromFailed counts = refl
line_head (line.NotACard at) counts = refl
line_head (line.NoApplet shelf) counts = refl
line_head (line.Counts lines commands fetches responses envelopes busy) counts = refl
