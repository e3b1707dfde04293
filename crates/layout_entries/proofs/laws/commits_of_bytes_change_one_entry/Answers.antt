use Rattle.layout_entries.proofs.CommitsChangeOneEntryLemmas.{node_reread, pin_reread, row_reread}
use Rattle.layout_entries.proofs.laws.commits_of_bytes_change_one_entry.Goals as goal

pub returns-clause-node : goal.returns-clause-node
returns-clause-node c = λ content number from to node long low order inside. node_reread content long number from to node low order inside

pub returns-clause-pin : goal.returns-clause-pin
returns-clause-pin c = λ content slot from to pin long low order inside ranges. pin_reread content long slot from to pin low order inside ranges

pub returns-clause-row : goal.returns-clause-row
returns-clause-row c = λ content shelf from to row long low order inside. row_reread content long shelf from to row low order inside
