use Rattle.file_admin.proofs.LiesInLemmas.{NoneLies}
use Rattle.file_admin.proofs.refusals.has_children.Given as goal

abbrev pub invariant-loop-number : goal.invariant-loop-number
invariant-loop-number l = NoneLies l.fn.loaded.nodes l.df l.number
