use Rattle.std.proofs.Common.{length}
use Rattle.layout_section.proofs.files.Files.+at.Given as goal

abbrev pub decreases-at : goal.decreases-at
decreases-at l = length l.path.now
