-- What the card has of its own of the commands that it knows.
use Rattle.std.specs.Prelude.{◌≡◌, ◌⊎◌, ℕ, true, List, slice_set, Option, Some, None, Result, Ok, Err}
use Rattle.std.specs.Option.{option_to_list}
use Rattle.uicc_types.specs.declared.answers.StatusWord.{StatusWord}
use Rattle.uicc_types.specs.declared.identifiers.Shelf.{Shelf}
use Rattle.apdu_form.specs.Model.{Apdu}
use Rattle.card_state.specs.declared.entries.Loaded.{Loaded}
use Rattle.card_state.specs.Persistent.{Persistent}
use Rattle.card_state.specs.States.{rows_of}
use Rattle.access_rules.specs.declared.rules.Verified.{Verified}
use Rattle.file_model.specs.declared.tree_commands.TreeCommand.{TreeCommand}
use Rattle.file_model.specs.TreeCommands.{tree_outcome}
use Rattle.file_model.specs.TreeOutcomes.{TreeOutcome}
use Rattle.file_model.specs.declared.selections.Selection.{Selection}
use Rattle.file_model.specs.Chains.{and_given}
use Rattle.apdu_form.specs.Classes.{channel_of}
use Rattle.file_model.specs.Channels.{ChannelOutcome}
use Rattle.applet_trait.specs.Minds.{AppletState}
use Rattle.proactive_handler.specs.Boxes.{kinds_of}
use Rattle.card_model.specs.Answers.{Answered, carried_with}
use Rattle.card_model.specs.Instructions.{InstructionRow, instruction_tried, is_known}
use Rattle.card_model.specs.States.{CardState}
use Rattle.card_model.specs.declared.instructions.CatCommand.{CatCommand}
use Rattle.card_model.specs.declared.instructions.CatCommand.TheVariants.{DeleteApplet}
use Rattle.cat_commands.specs.Deleting.{HasNoRow}
use Rattle.card_core.specs.declared.instructions.TableRow.{TableRow}

-- a row of the table of instructions as the definitions have it
abbrev pub row_shown : ℕ → TableRow → InstructionRow
row_shown ins row = record { class = row.class; ins = ins; instruction = row.instruction; is_basic = row.is_basic }

-- what a command that makes, deletes or resizes a file comes to on its channel, over a state
abbrev pub tree_by : TreeCommand → Apdu → Verified → List (Option Selection) → Persistent → Result TreeOutcome StatusWord
tree_by command apdu seen channels = λ state. tree_outcome command state seen channels (channel_of apdu.class) apdu

-- the shelf of the applet that leaves where a fault stops this command
abbrev pub leaving_by : CatCommand → Apdu → Option Shelf
leaving_by DeleteApplet apdu = Some (record { 0 = apdu.p2 })
leaving_by _ apdu = None

-- boxes keep their kinds, but for that of an applet that is deleted, for which there is no row then
abbrev pub KindsKept : CatCommand → Apdu → Loaded → List (Option AppletState) → List (Option AppletState) → Type 0
KindsKept command apdu table old new =
    (kinds_of new ≡ kinds_of old) ⊎ ((command ≡ DeleteApplet) × (kinds_of new ≡ slice_set (kinds_of old) apdu.p2 None) × HasNoRow (rows_of table) apdu.p2)

-- MANAGE CHANNEL answered this number, if it opened a channel, and left these channels; or it was refused
abbrev pub channels_managed : Result (Option ℕ) StatusWord → List (Option Selection) → Result ChannelOutcome StatusWord
channels_managed (Ok number) channels = Ok (record { body = option_to_list number; channels = channels })
channels_managed (Err status) channels = Err status

-- a command comes to what the instruction that its class and its instruction byte name comes to, or to the status that refuses them
abbrev pub by_instruction : Apdu → CardState → Result Answered StatusWord
by_instruction apdu card = and_given (instruction_tried is_known card.channels apdu.class apdu.ins) (λ instruction. carried_with true instruction card apdu)
