use Rattle.file_model.proofs.OneFileLemmas.{deletes_one}
use Rattle.file_model.proofs.tree_laws.one_file_goes.Goals as goal

pub returns : goal.returns
returns c = deletes_one
