use Rattle.std.proofs.Common.{◌+◌, ◌≤◌, List, ℕ, refl, subst}
use Rattle.card_state.specs.Places.{memory_size}
use Rattle.card_state.specs.Memory.{memory}
use Rattle.layout_laws.specs.Known.{IsBesideNodes}
use Rattle.card_commits.specs.Prepared.{copied, Prepares}
use Rattle.card_commits.proofs.FilledLemmas.{whole_of, copied_keeps}
use Rattle.card_commits.proofs.PreparesLemmas.{free_inside, prepares}
use Rattle.card_commits.proofs.preparing.prepare_copy.Goals as goal

pub returns-clause-prepares : goal.returns-clause-prepares
returns-clause-prepares g c =
    let free : IsBesideNodes c.args.loaded.now c.from-2.result c.from-3.result = rw (c.from-2.ensures, c.from-3.ensures) c.requires.free in
    let source : c.from.result + c.from-3.result ≤ memory_size = rw (c.from.ensures, c.from-3.ensures) c.requires.source.inside in
    subst (λ (change : List ℕ → List ℕ). Prepares (memory g.S.Store c.args.store.now c.args.loaded.now) (memory g.S.Store c.copy.new.store c.args.loaded.now) c.copy.result change) (λ i. copied (c.from.ensures i) (c.from-2.ensures i) (c.from-3.ensures i))
    (prepares c.stores_stand.ensures.torn c.cards_are_known.ensures.free _ _ c.from-2.result c.from-3.result c.requires.mounted free refl c.copy.ensures.keeps.mark c.copy.result
    (copied c.from.result c.from-2.result c.from-3.result) (copied_keeps c.from.result c.from-2.result c.from-3.result source (free_inside c.args.loaded.now c.from-2.result c.from-3.result free))
    (whole_of (g.S.Store.stable c.args.store.now) (g.S.Store.byte_count c.args.store.now) c.requires.mounted.size_is (g.met.S.Store.told_length c.args.store.now)) c.copy.ensures.ok c.copy.ensures.torn
    c.copy.ensures.keeps.told c.copy.ensures.keeps.size c.copy.ensures.commits c.copy.ensures.keeps.recoveries c.copy.ensures.keeps.ready c.copy.ensures.keeps.cause)
