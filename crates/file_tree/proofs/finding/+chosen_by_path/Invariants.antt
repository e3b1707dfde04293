use Rattle.std.proofs.Common.{length}
use Rattle.file_tree.proofs.finding.+chosen_by_path.Given as goal

abbrev pub decreases-chosen_by_path : goal.decreases-chosen_by_path
decreases-chosen_by_path l = length l.path.now
