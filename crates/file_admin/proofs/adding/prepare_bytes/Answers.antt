use Rattle.std.proofs.Common.{refl}
use Rattle.file_admin.proofs.FilledLemmas.{filled_nothing}
use Rattle.file_admin.proofs.AnswersTreeLemmas.{keeps_all}
use Rattle.file_admin.proofs.adding.prepare_bytes.Goals as goal

pub returns-then-node-eq0-clause-prepares : goal.returns-then-node-eq0-clause-prepares
returns-then-node-eq0-clause-prepares g c = record {
  ok = filled_nothing c.args.node.now.place c.args.node.now.size (g.S.Store.stable c.args.store.now) c.if-node-eq0.true;
  still = refl;
  commits = refl;
  keeps = keeps_all _ _ c.requires.mounted;
}
