use Rattle.file_admin.proofs.FreeNumberLemmas.{AreUsed}
use Rattle.file_admin.proofs.rooms.free_number.Given as goal

abbrev pub invariant-loop-number : goal.invariant-loop-number
invariant-loop-number l = AreUsed l.fn.loaded l.df l.number
