-- No line of a trace has the byte of its end before its end.
use Rattle.std.proofs.Common.{◌≡◌, ◌≢◌, ℕ, zero, suc, ◌/◌, ◌%◌, Bool, true, false, cond, List, [], ◌∷◌, ◌++◌, map, slice_index, refl, arith, lit<, codes, not, ◌&&◌, ◌==◌}
use Rattle.std.specs.Fmt.{decimal, digits, digits_onto, digit_glyph}
use Rattle.std.proofs.lemmas.Bool.Decides.{nat_tests}
use Rattle.hex.specs.Hex.{encode_upper, encode_with, upper_digits}
use Rattle.uicc_types.specs.Answers.{answer_bytes}
use Rattle.script_form.specs.Traces.{message, note_text, shown}
use Rattle.script_form.specs.declared.handset.Note.{Note as ANote}
use Rattle.script_form.specs.declared.handset.Note.TheVariants as note
use Rattle.script_form.specs.declared.trace.TraceLine.{TraceLine}
use Rattle.script_form.specs.declared.trace.TraceLine.TheVariants as line
use Rattle.long_runs.proofs.HexDigitValueLemmas.{no_digit}
use Rattle.long_runs.specs.CountedLines.{IsOneLine}

pub one_line-append : (first second : List ℕ) → IsOneLine first → IsOneLine second → IsOneLine (first ++ second)
one_line-append [] second none rest = rest
one_line-append (byte ∷ first) second some rest = (some.0, one_line-append first second some.1 rest)

-- the same, as a test
abbrev has_no_end : List ℕ → Bool
has_no_end [] = true
has_no_end (byte ∷ others) = not (byte == 10) && has_no_end others

inside_by_test : (byte : ℕ) (rest : Bool) → (not (byte == 10) && rest) ≡ true → (byte ≢ 10) × (rest ≡ true)
inside_by_test byte rest e = by_test (byte == 10) rest e (λ is. grind (arith, nat_tests))
  where
    by_test : (is_end rest : Bool) → (not is_end && rest) ≡ true → (byte ≡ 10 → is_end ≡ true) → (byte ≢ 10) × (rest ≡ true)
    by_test true rest e is = absurd (cc)
    by_test false true e is = ((λ same. absurd (let no = is same in cc)), refl)
    by_test false false e is = absurd (cc)

words_line : (words : List ℕ) → has_no_end words ≡ true → IsOneLine words
words_line [] e = tt
words_line (byte ∷ others) e = let first = inside_by_test byte (has_no_end others) e in (first.0, words_line others first.1)

-- ---- digits

digit_of_table : (place : ℕ) → slice_index upper_digits place ≢ 10
digit_of_table place = λ e. no_digit 10 place refl (lit< tt) e

pub hex_line : (bytes : List ℕ) → IsOneLine (encode_with upper_digits bytes)
unfolding encode_with
hex_line [] = tt
hex_line (byte ∷ bytes) = (digit_of_table (byte / 16), (digit_of_table (byte % 16), hex_line bytes))

glyph_of : (digit : ℕ) → digit_glyph false digit ≢ 10
glyph_of digit = grind (arith, nat_tests)

by_test : (is_last : Bool) (last more : List ℕ) → IsOneLine last → IsOneLine more → IsOneLine (cond is_last last more)
by_test true last more is_last is_more = is_last
by_test false last more is_last is_more = is_more

onto_line : (count : ℕ) (number : ℕ) (behind : List ℕ) → IsOneLine behind → IsOneLine (digits_onto count 10 false number behind)
onto_line zero number behind rest = rest
onto_line (suc count) number behind rest =
    by_test (number / 10 == 0) (digit_glyph false (number % 10) ∷ behind) (digits_onto count 10 false (number / 10) (digit_glyph false (number % 10) ∷ behind))
    (glyph_of (number % 10), rest) (onto_line count (number / 10) (digit_glyph false (number % 10) ∷ behind) (glyph_of (number % 10), rest))

pub decimal_line : (number : ℕ) → IsOneLine (decimal number)
unfolding digits
decimal_line number = onto_line 64 number [] tt

-- ---- texts

shown_byte : (byte : ℕ) → shown byte ≢ 10
shown_byte byte = grind (arith, nat_tests)

pub shown_line : (text : List ℕ) → IsOneLine (map shown text)
shown_line [] = tt
shown_line (byte ∷ text) = (shown_byte byte, shown_line text)

-- ---- lines

words_then : (words text : List ℕ) → has_no_end words ≡ true → IsOneLine text → IsOneLine (words ++ text)
words_then words text e rest = one_line-append words text (words_line words e) rest

note_line : (noted : ANote) → IsOneLine (note_text noted)
note_line (note.Text text) = words_then (codes "* text ") (map shown text) refl (shown_line text)
note_line (note.Ask text) = words_then (codes "* ask ") (map shown text) refl (shown_line text)
note_line (note.Choose count) = words_then (codes "* choose ") (decimal count) refl (decimal_line count)
note_line (note.Menu count) = words_then (codes "* menu ") (decimal count) refl (decimal_line count)
note_line (note.Tone tone) = words_then (codes "* tone ") (encode_upper (tone ∷ [])) refl (hex_line (tone ∷ []))
note_line (note.Idle text) = words_then (codes "* idle ") (map shown text) refl (shown_line text)
note_line note.Call = words_line (codes "* call") refl
note_line note.Barred = words_line (codes "* barred") refl
note_line note.Busy = words_line (codes "* busy") refl

-- words and a number after a line
with_count : (front words : List ℕ) (count : ℕ) → has_no_end words ≡ true → IsOneLine front → IsOneLine (front ++ words ++ decimal count)
with_count front words count e line = one_line-append (front ++ words) (decimal count) (one_line-append front words line (words_line words e)) (decimal_line count)

counts_line : (a b c d e f : ℕ) → IsOneLine (message (line.Counts a b c d e f))
counts_line a b c d e f =
    let lines = words_then (codes "lines ") (decimal a) refl (decimal_line a) in
    let commands = with_count (codes "lines " ++ decimal a) (codes " commands ") b refl lines in
    let fetches = with_count (codes "lines " ++ decimal a ++ codes " commands " ++ decimal b) (codes " fetches ") c refl commands in
    let responses = with_count (codes "lines " ++ decimal a ++ codes " commands " ++ decimal b ++ codes " fetches " ++ decimal c) (codes " responses ") d refl fetches in
    let envelopes = with_count (codes "lines " ++ decimal a ++ codes " commands " ++ decimal b ++ codes " fetches " ++ decimal c ++ codes " responses " ++ decimal d) (codes " envelopes ") e refl responses in
    with_count (codes "lines " ++ decimal a ++ codes " commands " ++ decimal b ++ codes " fetches " ++ decimal c ++ codes " responses " ++ decimal d ++ codes " envelopes " ++ decimal e) (codes " busy ") f refl envelopes

pub message_line : (said : TraceLine) → IsOneLine (message said)
message_line (line.Command apdu) = words_then (codes "> ") (encode_upper apdu) refl (hex_line apdu)
message_line (line.Answer answer) = words_then (codes "< ") (encode_upper (answer_bytes answer)) refl (hex_line (answer_bytes answer))
message_line line.Cut = words_line (codes "! cut") refl
message_line line.Off = words_line (codes "! off") refl
message_line line.Reset = words_line (codes "! reset") refl
message_line (line.Note noted) = note_line noted
message_line (line.Response bytes) = words_then (codes "< ") (encode_upper bytes) refl (hex_line bytes)
message_line (line.Event event) = words_then (codes "* event ") (encode_upper event) refl (hex_line event)
message_line line.Usage = words_line (codes "usage") refl
message_line (line.Line number) = words_then (codes "line ") (decimal number) refl (decimal_line number)
message_line line.ReadFailed = words_line (codes "read failed") refl
message_line line.NoMemory = words_line (codes "no memory") refl
message_line line.EepromFailed = words_line (codes "eeprom failed") refl
message_line (line.NotACard at) = words_then (codes "not a card ") (decimal at) refl (decimal_line at)
message_line (line.NoApplet shelf) = words_then (codes "no applet ") (decimal shelf) refl (decimal_line shelf)
message_line (line.Counts lines commands fetches responses envelopes busy) = counts_line lines commands fetches responses envelopes busy
