use Rattle.std.proofs.Common.{List, ℕ, refl, subst}
use Rattle.card_state.specs.Memory.{memory}
use Rattle.layout_laws.specs.Known.{IsBesideNodes}
use Rattle.card_commits.specs.Prepared.{filled, Prepares}
use Rattle.card_commits.proofs.FilledLemmas.{whole_of, filled_keeps}
use Rattle.card_commits.proofs.PreparesLemmas.{free_inside, prepares}
use Rattle.card_commits.proofs.preparing.prepare_blank.Goals as goal

pub returns-clause-prepares : goal.returns-clause-prepares
returns-clause-prepares g c =
    let free : IsBesideNodes c.args.loaded.now c.from.result c.from-2.result = rw (c.from.ensures, c.from-2.ensures) c.requires.free in
    subst (λ (change : List ℕ → List ℕ). Prepares (memory g.S.Store c.args.store.now c.args.loaded.now) (memory g.S.Store c.fill.new.store c.args.loaded.now) c.fill.result change) (λ i. filled (c.from.ensures i) (c.from-2.ensures i))
    (prepares c.stores_stand.ensures.torn c.cards_are_known.ensures.free _ _ c.from.result c.from-2.result c.requires.mounted free refl c.fill.ensures.keeps.mark c.fill.result
    (filled c.from.result c.from-2.result) (filled_keeps c.from.result c.from-2.result (free_inside c.args.loaded.now c.from.result c.from-2.result free))
    (whole_of (g.S.Store.stable c.args.store.now) (g.S.Store.byte_count c.args.store.now) c.requires.mounted.size_is (g.met.S.Store.told_length c.args.store.now)) c.fill.ensures.ok c.fill.ensures.torn
    c.fill.ensures.keeps.told c.fill.ensures.keeps.size c.fill.ensures.commits c.fill.ensures.keeps.recoveries c.fill.ensures.keeps.ready c.fill.ensures.keeps.cause)
