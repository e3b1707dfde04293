use Rattle.std.proofs.Common.{length}
use Rattle.std.proofs.lemmas.Result.{on_ok_weaker}
use Rattle.page_store.proofs.InPageLemmas.{usable_place, read_part}
use Rattle.page_store.proofs.steps.read_part.Goals as goal

pub read-requires-clause-usable : goal.read-requires-clause-usable
read-requires-clause-usable g c =
    usable_place c.args.table.now c.args.at (length c.args.out.now) (g.S.CountedStore.byte_count c.args.store.now) c.place.result c.requires.part c.requires.below.size c.place.ensures c.requires.kept.pool

pub returns-clause-ok : goal.returns-clause-ok
returns-clause-ok g c =
    on_ok_weaker c.read.result
    (λ seen. read_part c.args.table.now c.args.at (length c.args.out.now) (g.S.CountedStore.byte_count c.args.store.now) c.place.result c.requires.part c.requires.below.size c.place.ensures
    (g.S.CountedStore.stable c.args.store.now) c.read.new.out (g.met.S.CountedStore.told_length c.args.store.now) c.requires.kept seen)
    c.read.ensures.ok
