use Rattle.std.proofs.Common.{◌≡◌}
use Rattle.file_model.specs.Files.{descriptors_of}
use Rattle.file_model.specs.Access.{arr_found}
use Rattle.file_tree.proofs.finding.nearest_ef.Given as goal

abbrev pub invariant-loop-id : goal.invariant-loop-id
invariant-loop-id l = arr_found (descriptors_of l.fn.loaded) l.fn.df l.id ≡ arr_found (descriptors_of l.fn.loaded) l.df l.id

abbrev pub decreases-loop-id : goal.decreases-loop-id
decreases-loop-id l = l.df
