use Rattle.file_model.specs.declared.tree_commands.TreeCommand.TheVariants.{Create, Delete, Resize}
use Rattle.file_model.specs.TreeCommands.{tree_outcome}
use Rattle.file_model.proofs.IsLawfulTreeCommandLemmas.{created_so, deleted_so, resized_so}
use Rattle.file_model.proofs.PassesChangesLemmas.{trees_pass}
use Rattle.file_model.proofs.tree_laws.commands_on_trees_are_lawful.Goals as goal

pub returns-clause-lawful : goal.returns-clause-lawful
unfolding tree_outcome
returns-clause-lawful c Create = created_so c.states_stay_sound.ensures.file
returns-clause-lawful c Delete = deleted_so c.states_stay_sound.ensures.no_file
returns-clause-lawful c Resize = resized_so c.states_stay_sound.ensures.file

pub returns-clause-passes : goal.returns-clause-passes
returns-clause-passes c = trees_pass
