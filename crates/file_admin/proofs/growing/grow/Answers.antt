use Rattle.std.proofs.Common.{refl, ◌+◌, ◌≤◌, inl, arith}
use Rattle.card_state.specs.Places.{memory_size}
use Rattle.card_state.proofs.RowPlaceLemmas.{data_end_inside}
use Rattle.layout_entries.specs.Spelling.{node_part}
use Rattle.card_commits.specs.Prepared.{moved}
use Rattle.card_commits.proofs.FilledLemmas.{whole_of}
use Rattle.file_admin.proofs.IsWrittenOverLemmas.{committed_over, stopped_before}
use Rattle.file_admin.proofs.FitsLemmas.{moved_keeps, is_no_df}
use Rattle.file_admin.proofs.WritesOverLemmas.{writes_over}
use Rattle.file_admin.proofs.growing.grow.Goals as goal

pub commit_node-requires-clause-entry : goal.commit_node-requires-clause-entry
commit_node-requires-clause-entry g c =
    (c.cards_are_known.ensures.files _ c.requires.mounted.agrees.content c.args.loaded.now c.requires.mounted.agrees.state c.args.number c.args.node.now c.requires.mounted.agrees.stands c.requires.file.has).low

pub returns-in-Ok-clause-committed : goal.returns-in-Ok-clause-committed
returns-in-Ok-clause-committed g c = λ change.
    committed_over _ c.requires.mounted c.args.number (record c.args.node.now { place = c.args.place; size = c.args.size }) 10 14 change c.in-Ok.field-0 _ _ refl c.in-Ok.ensures.prepares _ c.commit_node.result (c.commit_node.ensures.committed change)

pub returns-in-Err-clause-committed : goal.returns-in-Err-clause-committed
returns-in-Err-clause-committed g c = λ change over. stopped_before _ _ c.in-Err.fault _ change c.in-Err.ensures.prepares

pub returns-in-Ok-clause-writes : goal.returns-in-Ok-clause-writes
returns-in-Ok-clause-writes g c =
    let lies = (c.cards_are_known.ensures.files _ c.requires.mounted.agrees.content c.args.loaded.now c.requires.mounted.agrees.state c.args.number c.args.node.now c.requires.mounted.agrees.stands c.requires.file.has).lies (is_no_df c.args.node.now.kind c.requires.file.kind) in
    let source : c.args.node.now.place + c.args.node.now.size ≤ memory_size = omega (arith, lies.1, data_end_inside c.args.loaded.now.wide) in
    writes_over _ _ _ (moved c.args.node.now c.args.place c.args.size) c.args.place c.args.size (node_part c.args.number (record c.args.node.now { place = c.args.place; size = c.args.size }) 10 14) c.in-Ok.ensures.prepares.ok
    (moved_keeps c.args.node.now c.args.place c.args.size source c.requires.more (omega (arith, c.requires.free.to, data_end_inside c.args.loaded.now.wide)))
    (whole_of (g.S.Store.stable c.args.store.now) (g.S.Store.byte_count c.args.store.now) c.requires.mounted.size_is (g.met.S.Store.told_length c.args.store.now)) c.commit_node.result c.commit_node.ensures.pieces

pub returns-in-Err-clause-writes : goal.returns-in-Err-clause-writes
returns-in-Err-clause-writes g c = record { ok = tt; stopped = inl c.in-Err.ensures.torn }
