-- How a card with an open basic channel reads what a handset sends.
use Rattle.std.proofs.Common.{◌≡◌, ℕ, ◌+◌, ◌≤◌, Bool, true, false, List, [], ◌∷◌, ◌++◌, length, Option, Some, None, Result, Ok, refl, ◌∙◌, ap, arith, option_and_then, ◌==◌, not, if◌then◌else◌, option_map, take, slice_index}
use Rattle.std.proofs.lemmas.Bool.{eq-eqb, ne_eqb, false≢true}
use Rattle.uicc_types.specs.declared.answers.StatusWord.{StatusWord}
use Rattle.uicc_types.specs.declared.answers.TheConstants.StatusWord.{NO_SUCH_CHANNEL, WRONG_LENGTH}
use Rattle.apdu_form.specs.Model.{Apdu, ne_of, data_in, fields_in, command_in}
use Rattle.file_model.specs.Chains.{refused_if, given, and_given}
use Rattle.file_model.specs.declared.selections.Selection.{Selection}
use Rattle.file_model.specs.Channels.{is_open}
use Rattle.file_model.specs.declared.commands.FileCommand.TheVariants as file
use Rattle.comprehension_tlv.specs.Writing.{tagged, spellings}
use Rattle.toolkit_commands.specs.declared.commands.Details.{Details}
use Rattle.card_model.specs.Answers.{Answered, answer, answer_of, carried_with, settled, tried, with_pending}
use Rattle.card_model.specs.Instructions.{instruction_tried, is_known}
use Rattle.card_model.specs.States.{CardState}
use Rattle.card_model.specs.declared.instructions.Instruction.{Instruction}
use Rattle.card_model.specs.declared.instructions.Instruction.TheVariants.{File, Toolkit}
use Rattle.card_model.proofs.TriedLemmas.{cut_result}
use Rattle.card_model.specs.declared.instructions.CatCommand.TheVariants as toolkit
use Rattle.card_laws.specs.Moving.{command_by, if_carried, taken_by, taken}
use Rattle.handset_model.specs.Sending.{toolkit_apdu, response_objects, envelope, apdu_of}
use Rattle.handset_model.specs.declared.commands.Command.{Command}
use Rattle.handset_model.specs.declared.commands.Reply.{Reply}
use Rattle.handset_model.specs.declared.commands.Report.{Report}
use Rattle.handset_model.specs.declared.commands.Command.TheVariants as sent

-- ---- chains

pub past_unless : {X : Type 0} (b : Bool) (status : StatusWord) (next : Result X StatusWord) → b ≡ true → refused_if (not b) status next ≡ next
unfolding refused_if
past_unless true status next is = refl
past_unless false status next is = absurd (false≢true is)

pub past_given : {X Y : Type 0} (found : Option X) (x : X) (status : StatusWord) (next : X → Result Y StatusWord) → found ≡ Some x → given found status next ≡ next x
unfolding given
past_given found x status next is = ap (λ each. given each status next) is

pub past_result : {X Y : Type 0} (found : Result X StatusWord) (x : X) (next : X → Result Y StatusWord) → found ≡ Ok x → and_given found next ≡ next x
unfolding and_given
past_result found x next is = ap (λ each. and_given each next) is

-- ---- the instruction

-- the instruction that a command of a handset is
abbrev pub instruction_of : Command → Instruction
instruction_of sent.SelectMf = File file.Select
instruction_of sent.SendProfile = Toolkit toolkit.TerminalProfile
instruction_of (sent.Fetch size) = Toolkit toolkit.Fetch
instruction_of (sent.Respond details reply) = Toolkit toolkit.TerminalResponse
instruction_of (sent.Tell report) = Toolkit toolkit.Envelope
instruction_of sent.AskStatus = File file.Status

abbrev class_of : Command → ℕ
class_of sent.SelectMf = 0x00
class_of _ = 0x80

abbrev ins_byte : Command → ℕ
ins_byte sent.SelectMf = 0xA4
ins_byte sent.SendProfile = 0x10
ins_byte (sent.Fetch size) = 0x12
ins_byte (sent.Respond details reply) = 0x14
ins_byte (sent.Tell report) = 0xC2
ins_byte sent.AskStatus = 0xF2

named : (channels : List (Option Selection)) → is_open channels 0 ≡ true → (command : Command) → instruction_tried is_known channels (class_of command) (ins_byte command) ≡ Ok (instruction_of command)
unfolding instruction_tried refused_if given
named channels basic sent.SelectMf = ap (λ (b : Bool). refused_if (not b) NO_SUCH_CHANNEL (Ok (File file.Select))) basic
named channels basic sent.SendProfile = ap (λ (b : Bool). refused_if (not b) NO_SUCH_CHANNEL (Ok (Toolkit toolkit.TerminalProfile))) basic
named channels basic (sent.Fetch size) = ap (λ (b : Bool). refused_if (not b) NO_SUCH_CHANNEL (Ok (Toolkit toolkit.Fetch))) basic
named channels basic (sent.Respond details reply) = ap (λ (b : Bool). refused_if (not b) NO_SUCH_CHANNEL (Ok (Toolkit toolkit.TerminalResponse))) basic
named channels basic (sent.Tell report) = ap (λ (b : Bool). refused_if (not b) NO_SUCH_CHANNEL (Ok (Toolkit toolkit.Envelope))) basic
named channels basic sent.AskStatus = ap (λ (b : Bool). refused_if (not b) NO_SUCH_CHANNEL (Ok (File file.Status))) basic

-- ---- the parts

abbrev body_of : Command → List ℕ
body_of sent.SelectMf = 0x3F ∷ 0x00 ∷ []
body_of sent.SendProfile = 0x29 ∷ 0x00 ∷ 0xBF ∷ 0x61 ∷ 0x71 ∷ 0x00 ∷ 0x00 ∷ 0x13 ∷ []
body_of (sent.Fetch size) = []
body_of (sent.Respond details reply) = spellings (response_objects details reply)
body_of (sent.Tell report) = envelope report
body_of sent.AskStatus = []

abbrev p2_of : Command → ℕ
p2_of sent.SelectMf = 0x0C
p2_of sent.AskStatus = 0x0C
p2_of _ = 0x00

abbrev expected_of : Command → Option ℕ
expected_of (sent.Fetch size) = Some (ne_of size)
expected_of _ = None

-- a command of a handset in its parts
abbrev pub parts_of : Command → Apdu
parts_of command = record { class = class_of command; ins = ins_byte command; p1 = 0x00; p2 = p2_of command; body = body_of command; expected = expected_of command }

data_read : (rest : List ℕ) → data_in (length rest) rest ≡ Some (rest, None)
data_read rest =
    ap (λ (b : Bool). if b then Some (rest, None) else (if length rest == length rest + 1 then Some (take (length rest) rest, Some (ne_of (slice_index rest (length rest)))) else None)) (eq-eqb (length rest) (length rest) refl)

fields_read : (content : List ℕ) → 1 ≤ length content → fields_in (length content ∷ content) ≡ Some (content, None)
unfolding fields_in
fields_read [] some = absurd (omega (arith, some))
fields_read (first ∷ rest) some =
    let lc : (length (first ∷ rest) == 0) ≡ false = ne_eqb (length (first ∷ rest)) 0 (λ none. omega (arith, some, none)) in
    ap (λ (b : Bool). if b then None else data_in (length (first ∷ rest)) (first ∷ rest)) lc ∙ data_read (first ∷ rest)

toolkit_read : (ins : ℕ) (content : List ℕ) → 1 ≤ length content
    → command_in (toolkit_apdu ins content) ≡ Some (record { class = 0x80; ins = ins; p1 = 0x00; p2 = 0x00; body = content; expected = None })
unfolding command_in
toolkit_read ins content some =
    ap (option_map (λ (field : List ℕ × Option ℕ). let made : Apdu = record { class = 0x80; ins = ins; p1 = 0x00; p2 = 0x00; body = field.0; expected = field.1 } in made)) (fields_read content some)

tagged_some : (tag : ℕ) (value more : List ℕ) → 1 ≤ length (tagged tag value ++ more)
unfolding tagged
tagged_some tag value more = omega arith

pub responses_some : (details : Details) (reply : Reply) → 1 ≤ length (spellings (response_objects details reply))
responses_some details reply = tagged_some _ _ _

envelope_some : (report : Report) → 1 ≤ length (envelope report)
unfolding tagged
envelope_some report = omega arith

pub parts_read : (command : Command) → command_in (apdu_of command) ≡ Some (parts_of command)
unfolding command_in fields_in apdu_of
parts_read (sent.Respond details reply) = toolkit_read 0x14 (spellings (response_objects details reply)) (responses_some details reply)
parts_read (sent.Tell report) = toolkit_read 0xC2 (envelope report) (envelope_some report)
parts_read other = refl

-- ---- what the card makes of it

-- what comes of the command
abbrev pub carried : CardState → Command → Result Answered StatusWord
carried card command = carried_with true (instruction_of command) card (parts_of command)

-- and of it, cut to Le, before it is told what waits
abbrev pub comes : CardState → Command → Result Answered StatusWord
comes card command = cut_result (expected_of command) (carried card command)

module _ (card : CardState) (basic : is_open card.channels 0 ≡ true) (command : Command) where
  tried_so : tried is_known card (apdu_of command) ≡ comes card command
  unfolding tried
  tried_so =
      past_given (command_in (apdu_of command)) (parts_of command) WRONG_LENGTH _ (parts_read command)
      ∙ past_result (instruction_tried is_known card.channels (class_of command) (ins_byte command)) (instruction_of command) _ (named card.channels basic command)

  pub answer_so : answer card (apdu_of command) ≡ with_pending (settled card (comes card command))
  unfolding answer_of
  answer_so = ap (λ (came : Result Answered StatusWord). with_pending (settled card came)) tried_so

  pub taken_so : taken is_known card (apdu_of command) ≡ if_carried (carried card command) (command_by (instruction_of command) card (parts_of command))
  taken_so =
      ap (option_and_then (λ (apdu : Apdu). taken_by card apdu (instruction_tried is_known card.channels apdu.class apdu.ins))) (parts_read command)
      ∙ ap (taken_by card (parts_of command)) (named card.channels basic command)
