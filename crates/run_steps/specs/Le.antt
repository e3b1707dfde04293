-- What Le, the most data that a command lets its answer have, does to the answer of a card.
use Rattle.std.specs.Prelude.{◌≡◌, ◌≤◌, ◌==◌, ◌&&◌, not, ℕ, Bool, true, false, List, ◌∷◌, length, Some, None, IfSome}
use Rattle.apdu_form.specs.Model.{Apdu, data_field, command_in}
use Rattle.t0_link.specs.declared.instructions.TheConstants.{STATUS}
use Rattle.t0_link.specs.Tpdus.{is_outgoing}
use Rattle.file_model.specs.declared.commands.ContentsCommand.TheVariants.{ReadBinary, ReadRecord}
use Rattle.file_model.specs.declared.commands.FileCommand.TheVariants.{Contents}
use Rattle.card_model.specs.Answers.{carried_with, cut_answer, answer_of}
use Rattle.card_model.specs.States.{CardState}
use Rattle.card_model.specs.declared.instructions.Instruction.{Instruction}
use Rattle.card_model.specs.declared.instructions.Instruction.TheVariants.{File, ManageChannel, Toolkit}
use Rattle.card_model.specs.declared.instructions.CatCommand.TheVariants.{Fetch}

-- the same command without Le
abbrev pub without_le : Apdu → Apdu
without_le command = record command { expected = None }

-- its bytes
abbrev pub bare_bytes : Apdu → List ℕ
bare_bytes command = command.class ∷ command.ins ∷ command.p1 ∷ command.p2 ∷ data_field command.body

-- ---- the commands that look at Le

-- READ BINARY, READ RECORD and FETCH, and MANAGE CHANNEL with P1 00, which opens a channel
abbrev pub looks_at_le : Instruction → ℕ → Bool
looks_at_le (File (Contents ReadBinary)) p1 = true
looks_at_le (File (Contents ReadRecord)) p1 = true
looks_at_le (Toolkit Fetch) p1 = true
looks_at_le ManageChannel p1 = p1 == 0x00
looks_at_le _ p1 = false

-- the same by INS and P1: those whose data come from the card, but for STATUS
abbrev pub asks_by_le : ℕ → ℕ → Bool
asks_by_le ins p1 = not (ins == STATUS) && is_outgoing ins p1

-- ---- laws

-- No other command looks at Le, on a card that runs applets or on one that doesn't: it comes to what it comes to without Le.
abbrev pub OthersDontLookAtLe : Type 0
OthersDontLookAtLe =
    (runs_applets : Bool) (instruction : Instruction) (card : CardState) (command : Apdu) → looks_at_le instruction command.p1 ≡ false
    → carried_with runs_applets instruction card command ≡ carried_with runs_applets instruction card (without_le command)

-- So the answer of every card, whatever commands it knows, is that to the command without Le, with its data cut to Le,
abbrev pub AnswersAreCutToLe : Type 0
AnswersAreCutToLe =
    (knows : Instruction → Bool) (card : CardState) (bytes bare : List ℕ) (command : Apdu)
    → command_in bytes ≡ Some command → command_in bare ≡ Some (without_le command) → asks_by_le command.ins command.p1 ≡ false
    → answer_of knows card bytes ≡ cut_answer command.expected (answer_of knows card bare)

-- and each command can be sent without Le.
abbrev pub BareBytesAreRead : Type 0
BareBytesAreRead = (command : Apdu) → command_in (bare_bytes command) ≡ Some (without_le command)

-- No answer has more data than Le lets it have, whatever the command.
abbrev pub AnswersKeepToLe : Type 0
AnswersKeepToLe =
    (knows : Instruction → Bool) (card : CardState) (bytes : List ℕ) (command : Apdu) → command_in bytes ≡ Some command
    → IfSome command.expected (λ most. length (answer_of knows card bytes).body ≤ most)
