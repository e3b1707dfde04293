use Rattle.file_model.proofs.OneFileLemmas.{resizes_one}
use Rattle.file_model.proofs.tree_laws.one_file_is_resized.Goals as goal

pub returns : goal.returns
returns c = resizes_one
