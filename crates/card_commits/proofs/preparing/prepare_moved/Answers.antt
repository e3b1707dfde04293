use Rattle.std.proofs.Common.{◌-◌, arith}
use Rattle.std.proofs.lemmas.Result.{on_err_weaker}
use Rattle.card_commits.specs.Prepared.{copied}
use Rattle.card_commits.proofs.FilledLemmas.{whole_of, copied_keeps, torn_on, torn_within}
use Rattle.card_commits.proofs.PreparesLemmas.{free_inside, lies_from, lies_inside, moved_by, prepared_both, not_prepared}
use Rattle.card_commits.proofs.preparing.prepare_moved.Goals as goal

pub prepare_copy-requires-clause-source : goal.prepare_copy-requires-clause-source
prepare_copy-requires-clause-source g c = record {
  above = lies_from c.cards_are_known.ensures.files _ _ c.args.loaded.now c.requires.mounted.agrees c.args.number c.args.node.now c.requires.file;
  inside = lies_inside c.cards_are_known.ensures.files _ _ c.args.loaded.now c.requires.mounted.agrees c.args.number c.args.node.now c.requires.file;
}

pub returns-in-Ok-clause-prepares : goal.returns-in-Ok-clause-prepares
returns-in-Ok-clause-prepares g c =
    prepared_both _ _ _ _ _ _ _ c.prepare_blank.result c.in-Ok.ensures.prepares c.prepare_blank.ensures.prepares
    (λ is put.
    moved_by c.args.node.now c.args.place c.args.size (g.S.Store.stable c.args.store.now) (g.S.Store.stable c.prepare_copy.new.store) (g.S.Store.stable c.prepare_blank.new.store) c.requires.more
    (lies_inside c.cards_are_known.ensures.files _ _ c.args.loaded.now c.requires.mounted.agrees c.args.number c.args.node.now c.requires.file) (free_inside c.args.loaded.now c.args.place c.args.size c.requires.free)
    (whole_of (g.S.Store.stable c.args.store.now) (g.S.Store.byte_count c.args.store.now) c.requires.mounted.size_is (g.met.S.Store.told_length c.args.store.now)) is put)

pub returns-in-Err-clause-prepares : goal.returns-in-Err-clause-prepares
returns-in-Err-clause-prepares g c = not_prepared _ _ _ _ c.in-Err.fault c.in-Err.ensures.prepares

pub returns-in-Ok-clause-torn : goal.returns-in-Ok-clause-torn
returns-in-Ok-clause-torn g c =
    let free = free_inside c.args.loaded.now c.args.place c.args.size c.requires.free in
    let source = lies_inside c.cards_are_known.ensures.files _ _ c.args.loaded.now c.requires.mounted.agrees c.args.number c.args.node.now c.requires.file in
    on_err_weaker c.prepare_blank.result
    (λ torn. torn_on c.args.place c.args.node.now.size (c.args.size - c.args.node.now.size) c.args.size (copied c.args.node.now.place c.args.place c.args.node.now.size)
    (copied_keeps c.args.node.now.place c.args.place c.args.node.now.size source (omega (arith, free, c.requires.more))) (g.S.Store.stable c.args.store.now) (g.S.Store.stable c.prepare_copy.new.store) (g.S.Store.stable c.prepare_blank.new.store)
    (whole_of (g.S.Store.stable c.args.store.now) (g.S.Store.byte_count c.args.store.now) c.requires.mounted.size_is (g.met.S.Store.told_length c.args.store.now)) (omega (arith, c.requires.more)) c.in-Ok.ensures.prepares.ok torn)
    c.prepare_blank.ensures.torn

pub returns-in-Err-clause-torn : goal.returns-in-Err-clause-torn
returns-in-Err-clause-torn g c = torn_within c.args.place c.args.node.now.size c.args.size (omega (arith, c.requires.more)) (g.S.Store.stable c.args.store.now) (g.S.Store.stable c.prepare_copy.new.store) c.in-Err.ensures.torn
