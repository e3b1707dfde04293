-- What the commands pass is what their changes make of the state.
use Rattle.std.specs.Prelude.{◌≡◌, ℕ, List, map, Option, IfOk}
use Rattle.apdu_form.specs.Model.{Apdu}
use Rattle.card_state.specs.Changes.{states_after}
use Rattle.card_state.specs.Persistent.{Persistent}
use Rattle.access_rules.specs.declared.rules.Verified.{Verified}
use Rattle.file_model.specs.declared.commands.FileCommand.{FileCommand}
use Rattle.file_model.specs.declared.commands.PinCommand.{PinCommand}
use Rattle.file_model.specs.declared.selections.Selection.{Selection}
use Rattle.file_model.specs.declared.tree_commands.TreeCommand.{TreeCommand}
use Rattle.file_model.specs.Commands.{file_outcome, pin_outcome, first_fields, second_fields}
use Rattle.file_model.specs.Pins.{pins_put}
use Rattle.file_model.specs.TreeCommands.{tree_outcome}

-- of a command on files: the states that it passes are those after its changes, in order
abbrev pub FilesPassChanges : Type 0
FilesPassChanges =
    (command : FileCommand) (state : Persistent) (seen : Verified) (selection : Selection) (apdu : Apdu)
    → IfOk (file_outcome command state seen selection apdu) (λ outcome. outcome.passed ≡ states_after state outcome.changes)

-- of a PIN command: the states with the PINs that it passes are those after the changes that leave them (a `PutPin` leaves its PINs whatever its
-- fields are: these tell which bytes are written)
abbrev pub PinsPassChanges : Type 0
PinsPassChanges =
    (command : PinCommand) (state : Persistent) (verified : Verified) (apdu : Apdu)
    → IfOk (pin_outcome command state.pins verified apdu)
    (λ outcome. map (λ pins. record state { pins = pins }) outcome.passed ≡ states_after state (pins_put (first_fields command) (second_fields command) apdu.p2 outcome.passed))

-- the same of a command that makes, deletes or resizes a file
abbrev pub TreesPassChanges : Type 0
TreesPassChanges =
    (command : TreeCommand) (state : Persistent) (seen : Verified) (channels : List (Option Selection)) (channel : ℕ) (apdu : Apdu)
    → IfOk (tree_outcome command state seen channels channel apdu) (λ outcome. outcome.passed ≡ states_after state outcome.changes)
