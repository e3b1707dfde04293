use Rattle.std.proofs.Common.{refl, inl, arith}
use Rattle.card_state.proofs.RowPlaceLemmas.{data_end_inside}
use Rattle.layout_entries.specs.Spelling.{node_part}
use Rattle.card_commits.specs.Prepared.{filled}
use Rattle.card_commits.proofs.FilledLemmas.{whole_of}
use Rattle.file_admin.proofs.IsWrittenOverLemmas.{committed_over, stopped_before}
use Rattle.file_admin.proofs.WritesOverLemmas.{writes_over, blank_keeps}
use Rattle.file_admin.proofs.adding.add_file.Goals as goal

pub returns-in-Ok-clause-committed : goal.returns-in-Ok-clause-committed
returns-in-Ok-clause-committed g c = λ change.
    committed_over _ c.requires.mounted c.args.number c.args.node.now 0 16 change c.in-Ok.field-0 _ _ refl c.in-Ok.ensures.prepares _ c.commit_node.result (c.commit_node.ensures.committed change)

pub returns-in-Err-clause-committed : goal.returns-in-Err-clause-committed
returns-in-Err-clause-committed g c = λ change over. stopped_before _ _ c.in-Err.fault _ change c.in-Err.ensures.prepares

pub returns-in-Ok-clause-writes : goal.returns-in-Ok-clause-writes
returns-in-Ok-clause-writes g c =
    writes_over _ _ _ (filled c.args.node.now.place c.args.node.now.size) c.args.node.now.place c.args.node.now.size (node_part c.args.number c.args.node.now 0 16) c.in-Ok.ensures.prepares.ok
    (blank_keeps c.args.node.now.place c.args.node.now.size (λ some. omega (arith, (c.requires.free some).to, data_end_inside c.args.loaded.now.wide)))
    (whole_of (g.S.Store.stable c.args.store.now) (g.S.Store.byte_count c.args.store.now) c.requires.mounted.size_is (g.met.S.Store.told_length c.args.store.now)) c.commit_node.result c.commit_node.ensures.pieces

pub returns-in-Err-clause-writes : goal.returns-in-Err-clause-writes
returns-in-Err-clause-writes g c = record { ok = tt; stopped = inl c.in-Err.ensures.torn }
