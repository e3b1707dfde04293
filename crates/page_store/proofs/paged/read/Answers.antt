use Rattle.std.proofs.Common.{length, subst}
use Rattle.page_store.specs.Paged.{IsKnown}
use Rattle.page_store.proofs.KnownOfLemmas.{blank_read}
use Rattle.page_store.proofs.paged.read.Goals as goal

pub returns-in-Blank-clause-ok : goal.returns-in-Blank-clause-ok
returns-in-Blank-clause-ok g c =
    let none = subst (λ k. IsKnown k (g.S.CountedStore.stable c.args.store.now)) c.in-Blank.is c.requires.known.is_so in
    blank_read (g.S.CountedStore.stable c.args.store.now) c.args.at (length c.args.out.now) c.fill.new.self none c.requires.usable (c.fill.ensures.after (λ y same. same))
