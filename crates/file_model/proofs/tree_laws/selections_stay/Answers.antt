use Rattle.file_model.proofs.KeepsSelectedLemmas.{created_there, deleted_there, resized_there}
use Rattle.file_model.proofs.tree_laws.selections_stay.Goals as goal

pub returns-clause-create : goal.returns-clause-create
returns-clause-create c = created_there

pub returns-clause-delete : goal.returns-clause-delete
returns-clause-delete c = deleted_there

pub returns-clause-resize : goal.returns-clause-resize
returns-clause-resize c = resized_there
