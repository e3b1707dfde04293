use Rattle.std.proofs.Common.{◌*◌}
use Rattle.file_tree.specs.Tables.{HasNoneBetween}
use Rattle.file_tree.proofs.searching.first_with.Given as goal

abbrev pub invariant-loop-run : goal.invariant-loop-run
invariant-loop-run l = HasNoneBetween l.loaded.nodes l.id.0 0 (8 * l.run)
