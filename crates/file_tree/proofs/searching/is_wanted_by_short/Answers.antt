use Rattle.std.proofs.Common.{sym}
use Rattle.file_tree.proofs.FirstFileLemmas.{short_fails}
use Rattle.file_tree.proofs.searching.is_wanted_by_short.Goals as goal

pub returns-then-node-short : goal.returns-then-node-short
returns-then-node-short c = sym (short_fails c.args.wanted c.args.number c.args.node.now c.args.short c.requires.only c.if-node-short.true)
