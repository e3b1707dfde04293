use Rattle.std.proofs.Common.{sym, arith}
use Rattle.file_tree.proofs.FirstFileLemmas.{none_chosen}
use Rattle.file_tree.proofs.finding.chosen_by_identifier.Goals as goal

pub returns-then-from-eq-NODE_COUNT-clause-value : goal.returns-then-from-eq-NODE_COUNT-clause-value
returns-then-from-eq-NODE_COUNT-clause-value c =
    sym (none_chosen c.args.loaded.now c.args.df c.args.id c.first_with-from.result c.files_are_found.ensures.identifier c.first_with-from.ensures.before
    (omega (arith, c.has_all_nodes.ensures, c.from.ensures, c.if-from-eq-NODE_COUNT.true)))
