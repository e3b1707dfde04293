-- What a card answers to a command, and what it is after it.
use Rattle.std.specs.Prelude.{ℕ, ◌+◌, ◌==◌, ◌/◌, ◌||◌, Bool, true, false, if◌then◌else◌, List, [], ◌∷◌, ◌++◌, map, slice_set, Option, Some, None, unwrap_or, Result, Ok, Err}
use Rattle.uicc_types.specs.declared.answers.StatusWord.{StatusWord}
use Rattle.uicc_types.specs.declared.answers.TheConstants.StatusWord.{DONE, END_OF_FILE, FILE_DEACTIVATED, WRONG_LENGTH}
use Rattle.apdu_form.specs.Model.{Apdu, command_in, cut_to}
use Rattle.card_state.specs.Changes.{Change}
use Rattle.card_state.specs.Persistent.{Pin as HeldPin, Persistent}
use Rattle.access_rules.specs.declared.rules.Verified.{Verified}
use Rattle.file_model.specs.declared.selections.Selection.{Selection}
use Rattle.file_model.specs.declared.selections.TheConstants.Selection.{AT_START}
use Rattle.file_model.specs.Chains.{given, and_given}
use Rattle.file_model.specs.Access.{keys_seen}
use Rattle.file_model.specs.Outcomes.{FileOutcome, PinOutcome, last_of}
use Rattle.file_model.specs.Commands.{file_outcome, pin_outcome, first_fields, second_fields}
use Rattle.file_model.specs.Pins.{pins_put}
use Rattle.file_model.specs.declared.commands.PinCommand.{PinCommand}
use Rattle.file_model.specs.declared.commands.FileCommand.TheVariants.{Status}
use Rattle.file_model.specs.TreeCommands.{tree_outcome}
use Rattle.file_model.specs.TreeOutcomes.{TreeOutcome}
use Rattle.apdu_form.specs.Classes.{channel_of}
use Rattle.file_model.specs.Channels.{ChannelOutcome, selected_on, channel_tried}
use Rattle.toolkit_model.specs.Commands.{polled, pending}
use Rattle.toolkit_model.specs.Passing.{changes_in}
use Rattle.card_model.specs.States.{CardState}
use Rattle.card_model.specs.Instructions.{instruction_tried, is_known, has_toolkit}
use Rattle.card_model.specs.Toolkit.{ToolkitOutcome, toolkit_of, coming_to, states_passed, toolkit_outcome}
use Rattle.card_model.specs.declared.instructions.Instruction.{Instruction}
use Rattle.card_model.specs.declared.instructions.Instruction.TheVariants.{File, Pin, ManageChannel, Toolkit, Tree}

-- The data of the answer and the status, the card after the command, and of each of its commits, in order, what the card held for good
-- after it and what it changed.
pub record Answered : Type 0 where
  pub body : List ℕ
  pub status : StatusWord
  pub state : CardState
  pub commits : List Persistent
  pub changes : List Change

-- no data, and nothing changes
abbrev pub refused : CardState → StatusWord → Answered
refused card status = record { body = []; status = status; state = card; commits = []; changes = [] }

-- ---- what each kind of command does to the card

-- a command on files works on what its channel has selected, and leaves the other channels
abbrev pub on_files : CardState → ℕ → FileOutcome → Answered
on_files card channel outcome = record {
  body = outcome.body;
  status = outcome.status;
  state = record card {
    persistent = last_of card.persistent outcome.passed;
    channels = slice_set card.channels channel (Some outcome.selection);
  };
  commits = outcome.passed;
  changes = outcome.changes;
}

-- what a card holds for good, with other PINs
abbrev pub with_pins : Persistent → List HeldPin → Persistent
with_pins persistent pins = record persistent { pins = pins }

-- a PIN command for a key changes the PINs and the marks of the keys, which all channels share
abbrev pub on_pins : CardState → PinCommand → ℕ → PinOutcome → Answered
on_pins card command key outcome = record {
  body = [];
  status = outcome.status;
  state = record card {
    persistent = with_pins card.persistent (last_of card.persistent.pins outcome.passed);
    verified = outcome.verified;
  };
  commits = map (with_pins card.persistent) outcome.passed;
  changes = pins_put (first_fields command) (second_fields command) key outcome.passed;
}

-- after MANAGE CHANNEL each channel has selected what the outcome says; nothing is committed
abbrev pub on_channels : CardState → ChannelOutcome → Answered
on_channels card outcome = record {
  body = outcome.body;
  status = DONE;
  state = record card { channels = outcome.channels };
  commits = [];
  changes = [];
}

-- after a command that makes, deletes or resizes a file each channel has selected what the outcome says
abbrev pub on_trees : CardState → TreeOutcome → Answered
on_trees card outcome = record {
  body = [];
  status = DONE;
  state = record card {
    persistent = last_of card.persistent outcome.passed;
    channels = outcome.channels;
  };
  commits = outcome.passed;
  changes = outcome.changes;
}

-- a command of the toolkit moves the rows, the session and the applets
abbrev pub on_toolkit : CardState → ToolkitOutcome → Answered
on_toolkit card outcome = record {
  body = outcome.body;
  status = DONE;
  state = record card {
    persistent = last_of card.persistent (states_passed card.persistent outcome);
    session = outcome.passed.state.session;
    boxes = outcome.passed.state.minds;
  };
  commits = states_passed card.persistent outcome;
  changes = changes_in outcome.passed.log;
}

-- ---- the commands

-- what is selected on this channel; on one that isn't open, what is selected at a start
abbrev pub selection_on : CardState → ℕ → Selection
selection_on card channel = unwrap_or (selected_on card.channels channel) AT_START

-- the keys whose conditions are satisfied
abbrev pub seen_by : CardState → Verified
seen_by card = keys_seen card.persistent.pins card.verified

-- a command on files as it was carried out on the card, or its refusal
abbrev pub file_tried : CardState → Apdu → Result FileOutcome StatusWord → Result Answered StatusWord
file_tried card apdu outcome = and_given outcome (λ done. Ok (on_files card (channel_of apdu.class) done))

-- the same of a PIN command
abbrev pub pin_tried : CardState → PinCommand → ℕ → Result PinOutcome StatusWord → Result Answered StatusWord
pin_tried card command key outcome = and_given outcome (λ done. Ok (on_pins card command key done))

-- the same of MANAGE CHANNEL
abbrev pub managed : CardState → Result ChannelOutcome StatusWord → Result Answered StatusWord
managed card outcome = and_given outcome (λ done. Ok (on_channels card done))

-- the same of a command that makes, deletes or resizes a file
abbrev pub tree_tried : CardState → Result TreeOutcome StatusWord → Result Answered StatusWord
tree_tried card outcome = and_given outcome (λ done. Ok (on_trees card done))

-- the same of a command of the toolkit
abbrev pub toolkit_tried : CardState → Result ToolkitOutcome StatusWord → Result Answered StatusWord
toolkit_tried card outcome = and_given outcome (λ done. Ok (on_toolkit card done))

-- what a command comes to on the card, or its refusal, by its instruction
unfoldable pub carried_out : Instruction → CardState → Apdu → Result Answered StatusWord
carried_out (File command) card apdu = file_tried card apdu (file_outcome command card.persistent (seen_by card) (selection_on card (channel_of apdu.class)) apdu)
carried_out (Pin command) card apdu = pin_tried card command apdu.p2 (pin_outcome command card.persistent.pins card.verified apdu)
carried_out ManageChannel card apdu = managed card (channel_tried card.channels (selection_on card (channel_of apdu.class)) apdu)
carried_out (Toolkit command) card apdu = toolkit_tried card (toolkit_outcome command card (seen_by card) apdu)
carried_out (Tree command) card apdu = tree_tried card (tree_outcome command card.persistent (seen_by card) card.channels (channel_of apdu.class) apdu)

-- ---- STATUS as an event

-- the applets that are registered for it run, on the card as the command left it
abbrev pub then_polled : Answered → Answered
then_polled answered =
    let later = on_toolkit answered.state (coming_to answered.state [] (polled (toolkit_of answered.state))) in
    record answered { state = later.state; commits = answered.commits ++ later.commits; changes = answered.changes ++ later.changes }

-- the instruction is that of STATUS
abbrev pub is_status : Instruction → Bool
is_status (File Status) = true
is_status _ = false

-- after STATUS the applets that are registered for it run, after another command nothing more happens
abbrev pub event_told : Bool → Answered → Answered
event_told true answered = then_polled answered
event_told false answered = answered

-- a command to a card that runs applets, or to one that does not
abbrev pub carried_with : Bool → Instruction → CardState → Apdu → Result Answered StatusWord
carried_with true instruction card apdu = and_given (carried_out instruction card apdu) (λ answered. Ok (event_told (is_status instruction) answered))
carried_with false instruction card apdu = carried_out instruction card apdu

-- ---- the answer

-- A command that is refused before it does anything changes nothing. A PIN command that was told a wrong value is carried out
-- so far that it takes a try.
abbrev pub settled : CardState → Result Answered StatusWord → Answered
settled card (Err status) = refused card status
settled card (Ok answered) = answered

-- the data of the answer are cut to Le, if there is one
abbrev pub cut_answer : Option ℕ → Answered → Answered
cut_answer expected answered = record answered { body = cut_to expected answered.body }

-- the whole order of refusals: the form, the class, the channel, the instruction, and then the command's own; the data of what comes
-- of it are cut to Le
unfoldable pub tried : (Instruction → Bool) → CardState → List ℕ → Result Answered StatusWord
tried knows card bytes =
    given (command_in bytes) WRONG_LENGTH (λ apdu.
    and_given (instruction_tried knows card.channels apdu.class apdu.ins) (λ instruction.
    and_given (carried_with (has_toolkit knows) instruction card apdu) (λ answered.
    Ok (cut_answer apdu.expected answered))))

-- Where a command is done and a command of the toolkit is there to be fetched, the status says how many bytes it has (ETSI
-- TS 102 221, 7.4.2.1).
abbrev pub told_pending : Option ℕ → StatusWord → StatusWord
told_pending None status = status
told_pending (Some count) status = if status.0 == DONE.0 then record { 0 = 0x9100 + count } else status

-- the status says that a command is there to be fetched, if one is
abbrev pub with_pending : Answered → Answered
with_pending answered = record answered { status = told_pending (pending answered.state.session) answered.status }

-- what a card that knows these commands answers
unfoldable pub answer_of : (Instruction → Bool) → CardState → List ℕ → Answered
answer_of knows card bytes = with_pending (settled card (tried knows card bytes))

-- what it held for good before the command and after each of its commits
abbrev pub passed_of : (Instruction → Bool) → CardState → List ℕ → List Persistent
passed_of knows card bytes = card.persistent ∷ (answer_of knows card bytes).commits

-- the answer of the card that knows all its instructions
abbrev pub answer : CardState → List ℕ → Answered
answer card bytes = answer_of is_known card bytes

-- what it held for good before the command and after each of its commits, where it knows all its instructions
abbrev pub passed : CardState → List ℕ → List Persistent
passed card bytes = passed_of is_known card bytes

-- ---- refusals

-- `6CXX` tells the right Le, `63CX` the tries that are left; neither is among the statuses of a command that was carried out
abbrev pub is_carried_out : StatusWord → Bool
is_carried_out status =
    status.0 == DONE.0 || status.0 / 256 == 0x91 || status.0 == END_OF_FILE.0 || status.0 == FILE_DEACTIVATED.0

-- The status with which a command is refused, if it is. A wrong value of a PIN is a refusal too, and `63CX` counts as one also
-- where VERIFY PIN and UNBLOCK PIN without data ask for it and nothing changes (ETSI TS 102 221, 11.1.9 and 11.1.13).
unfoldable pub refusal : (Instruction → Bool) → CardState → List ℕ → Option StatusWord
refusal knows card bytes =
    let status = (answer_of knows card bytes).status in
    if is_carried_out status then None else Some status
