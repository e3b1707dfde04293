use Rattle.std.proofs.Common.{refl, lit≤}
use Rattle.layout_entries.specs.Fields.{merged_node, reread_node}
use Rattle.layout_laws.proofs.ChangesFileLemmas.{file_anew, file_written, file_changed}
use Rattle.layout_laws.proofs.changes.commits_change_one_file.Goals as goal

pub returns-clause-changed : goal.returns-clause-changed
returns-clause-changed c = λ content number from to old part new card has fields ranges rest lies. file_changed c.pieces_change_their_bytes.ensures.beside c.commits_change_one_entry.ensures.node content card number from to old part new has fields ranges rest lies

pub returns-clause-added : goal.returns-clause-added
unfolding merged_node
returns-clause-added c = λ content number node card low ranges lies. file_written c.pieces_change_their_bytes.ensures.beside c.commits_change_one_entry.ensures.node content card number 0 16 node node low (record { order = lit≤ tt; inside = lit≤ tt; uncut = refl }) ranges refl lies

pub returns-clause-reread : goal.returns-clause-reread
returns-clause-reread c = λ content number from to node card low order inside lies.
    file_anew c.pieces_change_their_bytes.ensures.beside content card number from to node (reread_node content number from to node) low order inside
    (c.commits_of_bytes_change_one_entry.ensures.node content number from to node card.long low order inside) lies
