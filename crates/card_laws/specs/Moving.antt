-- Which command of the toolkit a command to a card is, and how the card goes on by it.
use Rattle.std.specs.Prelude.{◌≡◌, ℕ, ◌<◌, Bool, true, List, [], ◌∷◌, ◌++◌, map, All, Option, Some, None, option_map, option_and_then, Result, Ok, Err, ⊤}
use Rattle.std.specs.Option.{option_to_list}
use Rattle.uicc_types.specs.declared.answers.StatusWord.{StatusWord}
use Rattle.apdu_form.specs.Model.{Apdu, command_in}
use Rattle.card_state.specs.Persistent.{Registration}
use Rattle.card_state.specs.Sections.{with_row}
use Rattle.file_model.specs.declared.commands.FileCommand.TheVariants as file
use Rattle.toolkit_commands.specs.Envelopes.{envelope_of}
use Rattle.toolkit_model.specs.declared.faults.RowFault.{RowFault}
use Rattle.toolkit_model.specs.Commands.{unfetched, unanswered, reply_to}
use Rattle.toolkit_model.specs.Passing.{Passed, passed_rows}
use Rattle.toolkit_model.specs.Registry.{installed_row, without_row}
use Rattle.toolkit_model.specs.Steps.{ToolkitInput, Profile, Status, Report, Fetch, Respond, Install, Delete, Wake, IsAccepted, moved, moved_by}
use Rattle.toolkit_model.specs.OrderlySessions.{IsInOrder}
use Rattle.card_model.specs.Answers.{Answered, carried_with, answer_of, passed_of}
use Rattle.card_model.specs.Instructions.{instruction_tried}
use Rattle.card_model.specs.Runs.{IsLeft, boxes_left}
use Rattle.card_model.specs.States.{CardState, HasBox, restarted}
use Rattle.card_model.specs.Toolkit.{toolkit_of, kind_in}
use Rattle.card_model.specs.declared.instructions.Instruction.{Instruction}
use Rattle.card_model.specs.declared.instructions.Instruction.TheVariants.{File, Toolkit}
use Rattle.card_model.specs.declared.instructions.CatCommand.{CatCommand}
use Rattle.card_model.specs.declared.instructions.CatCommand.TheVariants as toolkit

-- ---- rows

-- a row without what its applet can change
abbrev pub fixed : Registration → Registration
fixed row = record row { codes = []; kept = [] }

-- the same rows, but for their codes and what is kept for their applets
abbrev pub HaveFixed : List Registration → List Registration → Type 0
HaveFixed rows now = map fixed now ≡ map fixed rows

-- the rows once an applet is installed or deleted; no other command makes a row or takes one away
abbrev pub rows_by : ToolkitInput → List Registration → List Registration
rows_by (Install row) rows = with_row rows row
rows_by (Delete shelf) rows = without_row rows shelf
rows_by _ rows = rows

-- the registered applets after a command of the toolkit, if there was one
abbrev pub rows_after : Option ToolkitInput → List Registration → List Registration
rows_after None rows = rows
rows_after (Some command) rows = rows_by command rows

-- ---- commands

-- the INSTALL that this row comes from, where it isn't refused
abbrev pub if_row : Result Registration RowFault → Option ToolkitInput
if_row (Ok row) = Some (Install row)
if_row (Err fault) = None

-- the command of the toolkit that an instruction with these data is; the others are none
abbrev pub command_of : CatCommand → CardState → Apdu → Option ToolkitInput
command_of toolkit.TerminalProfile card apdu = Some (Profile apdu.body)
command_of toolkit.Fetch card apdu = option_map (λ out. Fetch out) (unfetched card.session)
command_of toolkit.TerminalResponse card apdu =
    option_and_then (λ out. option_map (λ reply. Respond out reply) (reply_to out apdu.body)) (unanswered card.session)
command_of toolkit.Envelope card apdu = option_map (λ envelope. Report envelope) (envelope_of apdu.body)
command_of toolkit.InstallApplet card apdu = if_row (installed_row card.persistent (kind_in card apdu.p2) apdu.p2 apdu.p1 apdu.body)
command_of toolkit.DeleteApplet card apdu = Some (Delete apdu.p2)

-- the command of the toolkit that an instruction is, where it is one
abbrev pub command_by : Instruction → CardState → Apdu → Option ToolkitInput
command_by (File file.Status) card apdu = Some Status
command_by (Toolkit command) card apdu = command_of command card apdu
command_by _ card apdu = None

-- where it is carried out
abbrev pub if_carried : Result Answered StatusWord → Option ToolkitInput → Option ToolkitInput
if_carried (Ok answered) command = command
if_carried (Err status) command = None

-- the command of the toolkit that is carried out, where the card takes it
abbrev pub taken_by : CardState → Apdu → Result Instruction StatusWord → Option ToolkitInput
taken_by card apdu (Ok instruction) = if_carried (carried_with true instruction card apdu) (command_by instruction card apdu)
taken_by card apdu (Err status) = None

-- the command of the toolkit that a card takes with these bytes, where it runs applets
abbrev pub taken : (Instruction → Bool) → CardState → List ℕ → Option ToolkitInput
taken knows card bytes = option_and_then (λ apdu. taken_by card apdu (instruction_tried knows card.channels apdu.class apdu.ins)) (command_in bytes)

-- ---- how the card goes on

-- By a command of the toolkit: it is accepted, what the card has of the toolkit moves by it, and just its commits of rows are made.
pub record GoesOnBy (command : ToolkitInput) (card : CardState) (answered : Answered) : Type 0 where
  pub accepted : IsAccepted command (toolkit_of card)
  pub toolkit : toolkit_of answered.state ≡ (moved command (toolkit_of card)).state
  pub commits : map (λ state. state.rows) answered.commits ≡ passed_rows (moved command (toolkit_of card)).log

-- By none: what the card has of the toolkit stays, and no commit changes its rows.
pub record StaysAsItWas (card : CardState) (answered : Answered) : Type 0 where
  pub toolkit : toolkit_of answered.state ≡ toolkit_of card
  pub commits : All (λ state. state.rows ≡ card.persistent.rows) answered.commits

-- a card goes on by a command of the toolkit as that says, and is as it was otherwise
abbrev pub GoesOn : Option ToolkitInput → CardState → Answered → Type 0
GoesOn (Some command) card answered = GoesOnBy command card answered
GoesOn None card answered = StaysAsItWas card answered

-- Each commit has the rows that were there, with that of an applet that is installed, or without that of one that is deleted; of these
-- it changes the codes and what is kept for the applet alone. Each row has its box.
pub record LeavesRows (command : Option ToolkitInput) (card : CardState) (answered : Answered) : Type 0 where
  pub fixed : All (λ state. HaveFixed (rows_after command card.persistent.rows) state.rows) answered.commits
  pub boxes : All (HasBox card.boxes) card.persistent.rows → All (λ state. All (HasBox card.boxes) state.rows) answered.commits

-- The toolkit of a card is in order, and its next sequence number is above those of the rows.
pub record HasOrder (card : CardState) : Type 0 where
  pub order : IsInOrder (toolkit_of card)
  pub sequences : All (λ row. row.sequence < card.persistent.next_sequence) card.persistent.rows

-- ---- what happens to a card

-- It answers a command; a failure of the memory or a loss of power stops a command, and leaves it so; or it is reset.
pub data Event : Type 0 where
  Answers : List ℕ → Event
  Breaks : List ℕ → CardState → Event
  Restarts : Event

-- a card after what happens to it
abbrev pub card_after : (Instruction → Bool) → CardState → Event → CardState
card_after knows card (Answers bytes) = (answer_of knows card bytes).state
card_after knows card (Breaks bytes left) = left
card_after knows card Restarts = restarted card

-- what a fault leaves is one of the states that the command passes, and the card woke over it
abbrev pub CanHappen : (Instruction → Bool) → CardState → Event → Type 0
CanHappen knows card (Answers bytes) = ⊤
CanHappen knows card (Breaks bytes left) = IsLeft card (passed_of knows card bytes) left
CanHappen knows card Restarts = ⊤

-- all applets wake at a reset and after a fault
abbrev pub taken_at : (Instruction → Bool) → CardState → Event → Option ToolkitInput
taken_at knows card (Answers bytes) = taken knows card bytes
taken_at knows card (Breaks bytes left) = Some (Wake left.persistent.rows (boxes_left card.persistent.rows left.persistent.rows card.boxes))
taken_at knows card Restarts = Some (Wake card.persistent.rows card.boxes)

-- ---- one thing after the other

-- a card after all of this
abbrev pub card_after_all : (Instruction → Bool) → CardState → List Event → CardState
card_after_all knows card [] = card
card_after_all knows card (event ∷ events) = card_after_all knows (card_after knows card event) events

-- each of this can happen, one after the other
abbrev pub AllCanHappen : (Instruction → Bool) → CardState → List Event → Type 0
AllCanHappen knows card [] = ⊤
AllCanHappen knows card (event ∷ events) = CanHappen knows card event × AllCanHappen knows (card_after knows card event) events

-- the commands of the toolkit that are carried out in it
abbrev pub all_taken : (Instruction → Bool) → CardState → List Event → List ToolkitInput
all_taken knows card [] = []
all_taken knows card (event ∷ events) = option_to_list (taken_at knows card event) ++ all_taken knows (card_after knows card event) events

-- what is noted of it
abbrev pub noted_of : (Instruction → Bool) → CardState → List Event → Passed
noted_of knows card events = moved_by (all_taken knows card events) (toolkit_of card)
