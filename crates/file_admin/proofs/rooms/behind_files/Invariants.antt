use Rattle.std.proofs.Common.{drop}
use Rattle.file_model.proofs.IsNodeInTheWayLemmas.{IsBehind}
use Rattle.file_admin.proofs.rooms.behind_files.Given as goal

abbrev pub invariant-loop-node : goal.invariant-loop-node
invariant-loop-node l = IsBehind l.nodes (drop l.node-index l.nodes) l.place l.size l.behind
