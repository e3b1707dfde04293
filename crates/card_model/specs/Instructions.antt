-- The one list of instructions (ETSI TS 102 221, 10.1.2), and how a command is told by its class and instruction bytes.
use Rattle.std.specs.Prelude.{ℕ, ◌==◌, not, ◌&&◌, ◌||◌, Bool, true, false, List, [], ◌∷◌, find, filter, Option, Result, Ok}
use Rattle.std.specs.List.{list_any}
use Rattle.uicc_types.specs.declared.answers.StatusWord.{StatusWord}
use Rattle.uicc_types.specs.declared.answers.TheConstants.StatusWord.{NO_SUCH_CLASS, NO_SECURE_MESSAGING, NO_SUCH_CHANNEL, NO_SUCH_INSTRUCTION}
use Rattle.file_model.specs.Chains.{refused_if, given, needs}
use Rattle.file_model.specs.declared.selections.Selection.{Selection}
use Rattle.apdu_form.specs.Classes.{family, is_class, asks_secure_messaging, channel_of}
use Rattle.file_model.specs.Channels.{is_open}
use Rattle.file_model.specs.declared.commands.ContentsCommand.TheVariants.{ReadBinary, UpdateBinary, ReadRecord, UpdateRecord, SearchRecord, Increase, Deactivate, Activate}
use Rattle.file_model.specs.declared.commands.FileCommand.TheVariants.{Select, Status, Contents}
use Rattle.file_model.specs.declared.commands.PinCommand.TheVariants as pin
use Rattle.file_model.specs.declared.tree_commands.TreeCommand.TheVariants as tree
use Rattle.card_model.specs.declared.instructions.Instruction.{Instruction}
use Rattle.card_model.specs.declared.instructions.Instruction.TheVariants.{File, Pin, ManageChannel, Toolkit, Tree}
use Rattle.card_model.specs.declared.instructions.CatCommand.{CatCommand}
use Rattle.card_model.specs.declared.instructions.CatCommand.TheVariants.{TerminalProfile, Fetch, TerminalResponse, Envelope, InstallApplet, DeleteApplet}

-- a command with its class, without the channel, and its instruction byte; those between the toolkit and the handset are taken
-- on the basic channel alone
pub record InstructionRow : Type 0 where
  pub class : ℕ
  pub ins : ℕ
  pub instruction : Instruction
  pub is_basic : Bool

-- a command that is taken on each channel
abbrev pub instruction_row : ℕ → ℕ → Instruction → InstructionRow
instruction_row class ins instruction = record { class = class; ins = ins; instruction = instruction; is_basic = false }

-- a command that is taken on the basic channel alone
abbrev pub basic_row : ℕ → ℕ → Instruction → InstructionRow
basic_row class ins instruction = record { class = class; ins = ins; instruction = instruction; is_basic = true }

-- the commands of ETSI TS 102 221; INSTALL and DELETE of an applet, which are the card's own, in class F0; CREATE, DELETE and RESIZE FILE of
-- ETSI TS 102 222
abbrev pub instructions : List InstructionRow
instructions =
    instruction_row 0x00 0xA4 (File Select)
    ∷ instruction_row 0x80 0xF2 (File Status)
    ∷ instruction_row 0x00 0xB0 (File (Contents ReadBinary))
    ∷ instruction_row 0x00 0xD6 (File (Contents UpdateBinary))
    ∷ instruction_row 0x00 0xB2 (File (Contents ReadRecord))
    ∷ instruction_row 0x00 0xDC (File (Contents UpdateRecord))
    ∷ instruction_row 0x00 0xA2 (File (Contents SearchRecord))
    ∷ instruction_row 0x80 0x32 (File (Contents Increase))
    ∷ instruction_row 0x00 0x04 (File (Contents Deactivate))
    ∷ instruction_row 0x00 0x44 (File (Contents Activate))
    ∷ instruction_row 0x00 0x20 (Pin pin.Verify)
    ∷ instruction_row 0x00 0x24 (Pin pin.Change)
    ∷ instruction_row 0x00 0x26 (Pin pin.Disable)
    ∷ instruction_row 0x00 0x28 (Pin pin.Enable)
    ∷ instruction_row 0x00 0x2C (Pin pin.Unblock)
    ∷ instruction_row 0x00 0x70 ManageChannel
    ∷ basic_row 0x80 0x10 (Toolkit TerminalProfile)
    ∷ basic_row 0x80 0x12 (Toolkit Fetch)
    ∷ basic_row 0x80 0x14 (Toolkit TerminalResponse)
    ∷ basic_row 0x80 0xC2 (Toolkit Envelope)
    ∷ instruction_row 0xF0 0xE6 (Toolkit InstallApplet)
    ∷ instruction_row 0xF0 0xE4 (Toolkit DeleteApplet)
    ∷ instruction_row 0x00 0xE0 (Tree tree.Create)
    ∷ instruction_row 0x00 0xE4 (Tree tree.Delete)
    ∷ instruction_row 0x80 0xD4 (Tree tree.Resize)
    ∷ []

-- the rows of the commands that a card knows
abbrev pub rows_known : (Instruction → Bool) → List InstructionRow
rows_known knows = filter (λ each. knows each.instruction) instructions

-- one of them has this instruction byte; commands of two classes may share it
abbrev pub has_ins : (Instruction → Bool) → ℕ → Bool
has_ins knows ins = list_any (λ each. each.ins == ins) (rows_known knows)

-- the one that has it in this class
abbrev pub row_named : (Instruction → Bool) → ℕ → ℕ → Option InstructionRow
row_named knows class ins = find (λ each. each.ins == ins && each.class == class) (rows_known knows)

-- The command that a class and an instruction byte name. The class comes first, then the channel, then the instruction byte, and
-- then whether it has a command in this class.
unfoldable pub instruction_tried : (Instruction → Bool) → List (Option Selection) → ℕ → ℕ → Result Instruction StatusWord
instruction_tried knows channels class ins =
    needs (is_class class) NO_SUCH_CLASS (
    refused_if (asks_secure_messaging class) NO_SECURE_MESSAGING (
    needs (is_open channels (channel_of class)) NO_SUCH_CHANNEL (
    needs (has_ins knows ins) NO_SUCH_INSTRUCTION (
    given (row_named knows (family class) ins) NO_SUCH_CLASS (λ found.
    refused_if (found.is_basic && not (channel_of class == 0)) NO_SUCH_CHANNEL (
    Ok found.instruction))))))

-- the card knows them all
abbrev pub is_known : Instruction → Bool
is_known instruction = true

-- ---- applets

-- the commands between the toolkit and the terminal, and those that install and delete applets
abbrev pub toolkit_commands : List CatCommand
toolkit_commands = TerminalProfile ∷ Fetch ∷ TerminalResponse ∷ Envelope ∷ InstallApplet ∷ DeleteApplet ∷ []

-- a card that knows one of them runs applets
abbrev pub has_toolkit : (Instruction → Bool) → Bool
has_toolkit knows = list_any (λ command. knows (Toolkit command)) toolkit_commands

-- whether it is one of those
abbrev pub is_of_toolkit : Instruction → Bool
is_of_toolkit (Toolkit command) = true
is_of_toolkit _ = false

-- ---- the tree of files

-- those that make, delete and resize files
abbrev pub is_of_tree : Instruction → Bool
is_of_tree (Tree command) = true
is_of_tree _ = false

-- the class without the channel, and the instruction byte, of one of these; DELETE of an applet shares its byte with DELETE FILE
abbrev pub is_row_of_tree : ℕ → ℕ → Bool
is_row_of_tree class ins = class == 0x00 && (ins == 0xE0 || ins == 0xE4) || class == 0x80 && ins == 0xD4
