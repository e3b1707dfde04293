-- The commands that make, delete and resize files, by their names.
use Rattle.std.specs.Prelude.{ℕ, List, Option, Result}
use Rattle.uicc_types.specs.declared.answers.StatusWord.{StatusWord}
use Rattle.apdu_form.specs.Model.{Apdu}
use Rattle.card_state.specs.Persistent.{Persistent}
use Rattle.access_rules.specs.declared.rules.Verified.{Verified}
use Rattle.file_model.specs.declared.selections.Selection.{Selection}
use Rattle.file_model.specs.declared.tree_commands.TreeCommand.{TreeCommand}
use Rattle.file_model.specs.declared.tree_commands.TreeCommand.TheVariants.{Create, Delete, Resize}
use Rattle.file_model.specs.TreeOutcomes.{TreeOutcome}
use Rattle.file_model.specs.Creating.{created}
use Rattle.file_model.specs.Deleting.{deleted}
use Rattle.file_model.specs.Resizing.{resized}

-- what such a command comes to on this channel, or its refusal
unfoldable pub tree_outcome : TreeCommand → Persistent → Verified → List (Option Selection) → ℕ → Apdu → Result TreeOutcome StatusWord
tree_outcome Create state seen channels channel apdu = created state seen channels channel apdu
tree_outcome Delete state seen channels channel apdu = deleted state seen channels channel apdu
tree_outcome Resize state seen channels channel apdu = resized state seen channels channel apdu
