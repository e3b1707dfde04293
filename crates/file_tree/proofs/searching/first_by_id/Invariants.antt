use Rattle.file_tree.proofs.FirstFileLemmas.{NonePasses}
use Rattle.file_tree.proofs.searching.first_by_id.Given as goal

abbrev pub invariant-loop-number : goal.invariant-loop-number
invariant-loop-number l = NonePasses l.loaded.nodes l.wanted l.number
