use Rattle.file_model.proofs.OneFileLemmas.{creates_one}
use Rattle.file_model.proofs.tree_laws.one_file_comes.Goals as goal

pub returns : goal.returns
returns c = creates_one
