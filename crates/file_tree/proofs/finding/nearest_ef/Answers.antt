use Rattle.std.proofs.Common.{arith}
use Rattle.file_model.specs.Files.{descriptors_of}
use Rattle.file_tree.proofs.ChosenByPathLemmas.{parent_less}
use Rattle.file_tree.proofs.finding.nearest_ef.Goals as goal

pub loop-id-smaller : goal.loop-id-smaller
loop-id-smaller c = omega (arith, c.parent_of-df.ensures, parent_less (descriptors_of c.args.loaded.now) c.loop-id.df c.parents_come_first.ensures c.if-df-eq0.false)
