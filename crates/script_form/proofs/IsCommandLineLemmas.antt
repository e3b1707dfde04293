-- Lines with a command or a text, which is all that stands after their first words.
use Rattle.std.proofs.Common.{◌≡◌, ℕ, true, false, List, [], ◌∷◌, length, take, drop, Option, Some, None, Ok, refl, sym, ap, ◌∙◌, ◌+◌, ◌-◌, ◌≤◌, ◌==◌, get_or, subst, codes, arith, position}
use Rattle.std.specs.Prelude.{⊤}
use Rattle.std.specs.List.{join_with_byte}
use Rattle.std.proofs.lemmas.Bool.{false≢true}
use Rattle.std.proofs.lemmas.List.{take_rest}
use Rattle.std.proofs.lemmas.List.Elements.{All-weaker}
use Rattle.std.proofs.lemmas.List.Splits.{join_with_byte-slice_split, slice_split_none, length-slice_split}
use Rattle.hex.specs.Hex.{decode_of, is_hex_digit}
use Rattle.hex.proofs.HexLemmas.{decode_of-ok}
use Rattle.uicc_types.specs.declared.byte_lists.TheConstants.{LONGEST_COMMAND}
use Rattle.byte_streams.specs.declared.limits.TheConstants.{LONGEST_LINE}
use Rattle.script_form.specs.declared.keywords.Keyword.TheVariants as keyword
use Rattle.script_form.specs.declared.lines.ScriptLine.{ScriptLine}
use Rattle.script_form.specs.declared.lines.ScriptLine.TheVariants.{Apdu, Tpdu, UserType}
use Rattle.script_form.specs.declared.keywords.Keyword.{Keyword}
use Rattle.script_form.specs.Forms.{IsCommandLine, IsLine, IsTransferLine, IsTyping, form_of}
use Rattle.script_form.specs.Reads.{IsOnly, ReadsInto}
use Rattle.script_form.specs.Values.{IsHex, IsTyped, keyword_text}
use Rattle.script_form.specs.Words.{words}
use Rattle.script_form.proofs.WordsLemmas.{is_space, words_at, words_alone}

-- a space is no digit
no_space : (c : ℕ) → is_hex_digit c ≡ true → is_space c ≡ false
no_space c digit = grind (arith)

-- so digits are one word
words_digits : (digits bytes : List ℕ) → decode_of digits ≡ Ok bytes → words digits ≡ digits ∷ []
unfolding words
words_digits digits bytes read =
    slice_split_none is_space digits
    (All-weaker (λ c. is_hex_digit c ≡ true) (λ c. is_space c ≡ false) no_space digits (decode_of-ok digits bytes read).1)

-- a line has a word
words_some : (line : List ℕ) → words line ≡ [] → ⊥
unfolding words
words_some line none = omega (arith, length-slice_split is_space line, ap length none)

-- the only word of a line is the line
only_word : (line word : List ℕ) → words line ≡ word ∷ [] → word ≡ line
only_word line word one = parted (position is_space line) refl
  where
    parted : (place : Option ℕ) → position is_space line ≡ place → word ≡ line
    parted None none = let same : word ∷ [] ≡ line ∷ [] = sym one ∙ words_alone line none in cc
    parted (Some at) some =
        let others = take (length line - (at + 1)) (drop (at + 1) line) in
        let two : take at line ∷ words others ≡ word ∷ [] = sym (words_at line at some) ∙ one in
        let gone : words others ≡ [] = cc in
        absurd (words_some others gone)

-- and the words of a line are those of no other
words_same : (line other : List ℕ) → words line ≡ words other → line ≡ other
unfolding words
words_same line other same =
    sym (join_with_byte-slice_split 32 line) ∙ ap (join_with_byte 32) same ∙ join_with_byte-slice_split 32 other

command_form : (digits : List ℕ) (all : List (List ℕ)) (line : ScriptLine) → all ≡ words digits
    → IsCommandLine digits line → form_of keyword.Apdu all line
command_form digits all line left c = record {
  word = digits;
  others = [];
  value = c.bytes;
  parted = left ∙ words_digits digits c.bytes c.hex.digits;
  first = c.hex;
  rest = record { none_left = refl; is = c.is };
}

form_command : (digits : List ℕ) (all : List (List ℕ)) (line : ScriptLine) → all ≡ words digits
    → form_of keyword.Apdu all line → IsCommandLine digits line
form_command digits all line left f =
    let one : words digits ≡ f.word ∷ [] =
    sym left ∙ f.parted ∙ ap (λ (others : List (List ℕ)). f.word ∷ others) f.rest.none_left in
    record { bytes = f.value; hex = rw (← only_word digits f.word one) f.first; is = f.rest.is }

-- what is read from the digits is what the words after the keyword say
pub reads_form : (digits : List ℕ) (all : List (List ℕ)) → all ≡ words digits → (r : Option ⊤) (line : ScriptLine)
    → ReadsInto (IsCommandLine digits) r line → ReadsInto (form_of keyword.Apdu all) r line
reads_form digits all left (Some done) line o = record {
  so = command_form digits all line left o.so;
  only = λ other f. o.only other (form_command digits all other left f);
}
reads_form digits all left None line none = λ other f. none other (form_command digits all other left f)

-- the bytes that are read are those of the line
pub reads_command : (digits bytes : List ℕ) (line : ScriptLine) → line ≡ Apdu bytes → (r : Option ⊤)
    → ReadsInto (IsHex LONGEST_COMMAND digits) r bytes → ReadsInto (IsCommandLine digits) r line
reads_command digits bytes line is (Some done) o = record {
  so = record { bytes = bytes; hex = o.so; is = is };
  only = λ other c. c.is ∙ ap Apdu (o.only c.bytes c.hex) ∙ sym is;
}
reads_command digits bytes line is None none = λ other c. none c.bytes c.hex

-- the same of a TPDU
transfer_form : (digits : List ℕ) (all : List (List ℕ)) (line : ScriptLine) → all ≡ words digits
    → IsTransferLine digits line → form_of keyword.Tpdu all line
transfer_form digits all line left c = record {
  word = digits;
  others = [];
  value = c.bytes;
  parted = left ∙ words_digits digits c.bytes c.hex.digits;
  first = c.hex;
  rest = record { none_left = refl; is = c.is };
}

form_transfer : (digits : List ℕ) (all : List (List ℕ)) (line : ScriptLine) → all ≡ words digits
    → form_of keyword.Tpdu all line → IsTransferLine digits line
form_transfer digits all line left f =
    let one : words digits ≡ f.word ∷ [] =
    sym left ∙ f.parted ∙ ap (λ (others : List (List ℕ)). f.word ∷ others) f.rest.none_left in
    record { bytes = f.value; hex = rw (← only_word digits f.word one) f.first; is = f.rest.is }

pub reads_transfer_form : (digits : List ℕ) (all : List (List ℕ)) → all ≡ words digits → (r : Option ⊤) (line : ScriptLine)
    → ReadsInto (IsTransferLine digits) r line → ReadsInto (form_of keyword.Tpdu all) r line
reads_transfer_form digits all left (Some done) line o = record {
  so = transfer_form digits all line left o.so;
  only = λ other f. o.only other (form_transfer digits all other left f);
}
reads_transfer_form digits all left None line none = λ other f. none other (form_transfer digits all other left f)

pub reads_transfer : (digits bytes : List ℕ) (line : ScriptLine) → line ≡ Tpdu bytes → (r : Option ⊤)
    → ReadsInto (IsHex LONGEST_COMMAND digits) r bytes → ReadsInto (IsTransferLine digits) r line
reads_transfer digits bytes line is (Some done) o = record {
  so = record { bytes = bytes; hex = o.so; is = is };
  only = λ other c. c.is ∙ ap Tpdu (o.only c.bytes c.hex) ∙ sym is;
}
reads_transfer digits bytes line is None none = λ other c. none c.bytes c.hex

-- no text stands after the last word of a line
pub no_typing : (all : List (List ℕ)) → all ≡ [] → (line : ScriptLine) → IsTyping all line → ⊥
no_typing all none line typing = words_some typing.text (sym typing.behind ∙ none)

-- the text of a line is all that is left of it
text_is : (rest : List ℕ) (all : List (List ℕ)) (line : ScriptLine) → all ≡ words rest → (typing : IsTyping all line) → typing.text ≡ rest
text_is rest all line left typing = words_same typing.text rest (sym typing.behind ∙ left)

pub untyped : (rest : List ℕ) (all : List (List ℕ)) → all ≡ words rest → ((text : List ℕ) → IsTyped rest text → ⊥) → (line : ScriptLine) → IsTyping all line → ⊥
untyped rest all left none line typing =
    let same = text_is rest all line left typing in
    none rest (rw (← same) typing.typed)

pub typing_read : (rest text : List ℕ) (all : List (List ℕ)) → all ≡ words rest → IsOnly (IsTyped rest) text → IsOnly (IsTyping all) (UserType text)
typing_read rest text all left typed =
    let same : text ≡ rest = typed.so.same in
    record {
      so = record { text = text; behind = rw same left; typed = rw (← same) at typed.so; is = refl };
      only = λ other typing. typing.is ∙ ap (λ (t : List ℕ). UserType t) (text_is rest all other left typing ∙ sym same);
    }

-- ---- the word `apdu` and a space at the front of a line

-- the words of such a line are `apdu` and those of what stands after the space
words_behind : (digits : List ℕ) → words (97 ∷ 112 ∷ 100 ∷ 117 ∷ 32 ∷ digits) ≡ codes "apdu" ∷ words digits
unfolding words
words_behind digits = refl

line_of_command : (digits : List ℕ) (line : ScriptLine) → length (97 ∷ 112 ∷ 100 ∷ 117 ∷ 32 ∷ digits) ≤ LONGEST_LINE
    → IsCommandLine digits line → IsLine (97 ∷ 112 ∷ 100 ∷ 117 ∷ 32 ∷ digits) line
line_of_command digits line fits c = record {
  fits = fits;
  says = record {
    word = codes "apdu";
    others = words digits;
    value = keyword.Apdu;
    parted = words_behind digits;
    first = refl;
    rest = command_form digits (words digits) line refl c;
  };
}

-- it is a word with an `a` in front
begins_otherwise : (word : List ℕ) → codes "apdu" ≡ word → (get_or word 0 0 == 97) ≡ false → ⊥
begins_otherwise word same other = false≢true (sym other ∙ ap (λ (w : List ℕ). get_or w 0 0 == 97) (sym same))

-- so it is no other keyword's
is_apdu : (named : Keyword) → codes "apdu" ≡ keyword_text named → named ≡ keyword.Apdu
is_apdu keyword.Apdu same = refl
is_apdu keyword.Df same = absurd (begins_otherwise (codes "df") same refl)
is_apdu keyword.Ef same = absurd (begins_otherwise (codes "ef") same refl)
is_apdu keyword.Fill same = absurd (begins_otherwise (codes "fill") same refl)
is_apdu keyword.Rec same = absurd (begins_otherwise (codes "rec") same refl)
is_apdu keyword.Pin same = absurd (begins_otherwise (codes "pin") same refl)
is_apdu keyword.Row same = absurd (begins_otherwise (codes "row") same refl)
is_apdu keyword.Start same = absurd (begins_otherwise (codes "start") same refl)
is_apdu keyword.Tpdu same = absurd (begins_otherwise (codes "tpdu") same refl)
is_apdu keyword.Reset same = absurd (begins_otherwise (codes "reset") same refl)
is_apdu keyword.Cut same = absurd (begins_otherwise (codes "cut") same refl)
is_apdu keyword.Fail same = absurd (begins_otherwise (codes "fail") same refl)
is_apdu keyword.ReadFail same = absurd (begins_otherwise (codes "readfail") same refl)
is_apdu keyword.User same = absurd (begins_otherwise (codes "user") same refl)
is_apdu keyword.Net same = absurd (begins_otherwise (codes "net") same refl)
is_apdu keyword.Time same = absurd (begins_otherwise (codes "time") same refl)
is_apdu keyword.Cmd same = absurd (begins_otherwise (codes "cmd") same refl)

command_of_line : (digits : List ℕ) (line : ScriptLine) → IsLine (97 ∷ 112 ∷ 100 ∷ 117 ∷ 32 ∷ digits) line → IsCommandLine digits line
command_of_line digits line l =
    let both : codes "apdu" ∷ words digits ≡ l.says.word ∷ l.says.others = sym (words_behind digits) ∙ l.says.parted in
    let word : codes "apdu" ≡ l.says.word = cc in
    let others : words digits ≡ l.says.others = cc in
    let named : l.says.value ≡ keyword.Apdu = is_apdu l.says.value (word ∙ l.says.first) in
    form_command digits l.says.others line (sym others) (let P : Keyword → Type 0 = λ k. form_of k l.says.others line in subst P named l.says.rest)

-- a line by its first five bytes
pub begins : (line : List ℕ) → 5 ≤ length line → get_or line 0 0 ≡ 97 → get_or line 1 0 ≡ 112 → get_or line 2 0 ≡ 100 → get_or line 3 0 ≡ 117 → get_or line 4 0 ≡ 32
    → line ≡ 97 ∷ 112 ∷ 100 ∷ 117 ∷ 32 ∷ take (length line - 5) (drop 5 line)
begins (first ∷ second ∷ third ∷ fourth ∷ fifth ∷ rest) long one two three four five =
    let whole = take_rest (first ∷ second ∷ third ∷ fourth ∷ fifth ∷ rest) 5 in
    rw (whole, one, two, three, four, five) refl
begins (first ∷ second ∷ third ∷ fourth ∷ []) long one two three four five = absurd (omega (arith, long))
begins (first ∷ second ∷ third ∷ []) long one two three four five = absurd (omega (arith, long))
begins (first ∷ second ∷ []) long one two three four five = absurd (omega (arith, long))
begins (first ∷ []) long one two three four five = absurd (omega (arith, long))
begins [] long one two three four five = absurd (omega (arith, long))

-- a command after the word is the line's
pub reads_line : (line digits : List ℕ) → line ≡ 97 ∷ 112 ∷ 100 ∷ 117 ∷ 32 ∷ digits → length line ≤ LONGEST_LINE → (r : Option ⊤) (value : ScriptLine)
    → ReadsInto (IsCommandLine digits) r value → ReadsInto (IsLine line) r value
reads_line line digits is fits (Some done) value o = record {
  so = rw is (line_of_command digits value (rw is at fits) o.so);
  only = λ other l. o.only other (command_of_line digits other (rw is at l));
}
reads_line line digits is fits None value none = λ other l. none other (command_of_line digits other (rw is at l))
