use Rattle.std.proofs.Common.{drop, length, ◌-◌, take_at, length-drop}
use Rattle.layout_entries.proofs.SpellingLemmas.{node_back, pin_back, row_back}
use Rattle.layout_entries.proofs.laws.entries_are_read_back.Goals as goal

pub returns-clause-nodes : goal.returns-clause-nodes
returns-clause-nodes c = node_back

pub returns-clause-pins : goal.returns-clause-pins
returns-clause-pins c = pin_back

pub returns-clause-rows : goal.returns-clause-rows
returns-clause-rows c = λ row behind ranges. row_back row _ ranges (take_at (drop 32 row.kept) behind (length row.kept - 32) (length-drop 32 row.kept))
