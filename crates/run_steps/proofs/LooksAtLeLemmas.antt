-- Commands that don't look at Le.
use Rattle.std.proofs.Common.{◌≡◌, Bool, true, false, Result, Ok, Err, refl, ap, ◌==◌, ◌&&◌, nat_le, if◌then◌else◌}
use Rattle.uicc_types.specs.declared.answers.StatusWord.{StatusWord}
use Rattle.uicc_types.specs.declared.answers.TheConstants.StatusWord.{WRONG_PARAMETERS}
use Rattle.apdu_form.specs.Model.{Apdu}
use Rattle.apdu_form.specs.Classes.{channel_of}
use Rattle.file_model.specs.declared.commands.ContentsCommand.TheVariants.{ReadBinary, ReadRecord}
use Rattle.file_model.specs.declared.commands.FileCommand.TheVariants.{Contents}
use Rattle.file_model.specs.Binaries.{binary_file, updating, update_in, binary_updated}
use Rattle.file_model.specs.Chains.{and_given}
use Rattle.file_model.specs.Commands.{contents_outcome, file_outcome}
use Rattle.file_model.specs.LifeCycles.{life_file, bringing, life_changed}
use Rattle.file_model.specs.Pins.{pin_verified, pin_changed, pin_disabled, pin_enabled, pin_unblocked}
use Rattle.file_model.specs.Records.{record_file, record_named, number_to_update, record_updating, record_update_in, record_updated, numbers_matched, number_to_search, searching, search_in, searched, sum_to_write, increasing, increase_in, increased}
use Rattle.file_model.specs.Selecting.{selecting, file_selected, telling, status_told}
use Rattle.file_model.specs.Selections.{chosen}
use Rattle.file_model.specs.TreeCommands.{tree_outcome}
use Rattle.file_model.specs.Creating.{created}
use Rattle.file_model.specs.Deleting.{deleted}
use Rattle.file_model.specs.Resizing.{resized}
use Rattle.file_model.specs.Channels.{ChannelOutcome, channel_opened, channel_closed, channel_tried}
use Rattle.file_model.specs.declared.commands.PinCommand.TheVariants as pin
use Rattle.file_model.specs.declared.tree_commands.TreeCommand.TheVariants as tree
use Rattle.card_model.specs.Answers.{Answered, managed, selection_on, carried_out, is_status, event_told, carried_with}
use Rattle.card_model.specs.States.{CardState}
use Rattle.card_model.specs.Toolkit.{profile_taken, response_taken, envelope_taken, applet_installed, applet_deleted, toolkit_outcome}
use Rattle.card_model.specs.declared.instructions.Instruction.{Instruction}
use Rattle.card_model.specs.declared.instructions.Instruction.TheVariants.{File, Pin, ManageChannel, Toolkit, Tree}
use Rattle.card_model.specs.declared.instructions.CatCommand.TheVariants.{Fetch}
use Rattle.run_steps.specs.Le.{without_le, looks_at_le}

module _ (card : CardState) (apdu : Apdu) where
  abbrev by_p1 : Bool → Bool → Apdu → Result ChannelOutcome StatusWord
  by_p1 opens closes command =
      if opens && command.p2 == 0x00 then channel_opened card.channels (selection_on card (channel_of command.class)) command
      else if closes then channel_closed card.channels command
      else Err WRONG_PARAMETERS

  -- a channel that is not opened
  closed_alike : (opens closes : Bool) → opens ≡ false → by_p1 opens closes apdu ≡ by_p1 opens closes (without_le apdu)
  closed_alike true closes none = cc
  closed_alike false true none = refl
  closed_alike false false none = refl

  carried_alike : (instruction : Instruction) → looks_at_le instruction apdu.p1 ≡ false → carried_out instruction card apdu ≡ carried_out instruction card (without_le apdu)
  unfolding carried_out file_outcome contents_outcome file_selected selecting chosen status_told telling binary_file binary_updated update_in updating record_file record_named record_updated number_to_update record_update_in record_updating searched number_to_search search_in searching numbers_matched increased sum_to_write increase_in increasing life_changed life_file bringing pin_verified pin_changed pin_disabled pin_enabled pin_unblocked channel_tried toolkit_outcome profile_taken response_taken envelope_taken applet_installed applet_deleted tree_outcome created deleted resized
  carried_alike (File (Contents ReadBinary)) none = cc
  carried_alike (File (Contents ReadRecord)) none = cc
  carried_alike (Pin pin.Verify) none = refl
  carried_alike ManageChannel none = ap (managed card) (closed_alike (apdu.p1 == 0x00) (apdu.p1 == 0x80 && nat_le 1 apdu.p2 && nat_le apdu.p2 3) none)
  carried_alike (Toolkit Fetch) none = cc
  carried_alike (Tree tree.Create) none = refl
  carried_alike _ none = refl

  -- applets that are told of STATUS don't, either
  pub carried_with_alike : (runs_applets : Bool) (instruction : Instruction) → looks_at_le instruction apdu.p1 ≡ false
      → carried_with runs_applets instruction card apdu ≡ carried_with runs_applets instruction card (without_le apdu)
  carried_with_alike true instruction none = ap (λ (result : Result Answered StatusWord). and_given result (λ answered. Ok (event_told (is_status instruction) answered))) (carried_alike instruction none)
  carried_with_alike false instruction none = carried_alike instruction none
