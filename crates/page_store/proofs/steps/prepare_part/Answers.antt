use Rattle.std.proofs.Common.{length}
use Rattle.std.proofs.lemmas.Result.{on_ok_weaker, on_err_weaker}
use Rattle.update_journal.specs.Calls.{calls_at}
use Rattle.update_journal.proofs.CallsLemmas.{made_as}
use Rattle.page_store.proofs.CallsLemmas.{part_call}
use Rattle.page_store.proofs.InPageLemmas.{usable_place, torn_part, put_part}
use Rattle.page_store.proofs.steps.prepare_part.Goals as goal

pub prepare-requires-clause-usable : goal.prepare-requires-clause-usable
prepare-requires-clause-usable g c =
    usable_place c.args.table.now c.args.at (length c.args.bytes.now) (g.S.CountedStore.byte_count c.args.store.now) c.place.result c.requires.part c.requires.below.size c.place.ensures c.requires.kept.pool

pub returns-clause-kept : goal.returns-clause-kept
returns-clause-kept g c =
    on_ok_weaker c.prepare.result
    (λ put. (put_part c.args.table.now c.args.at (g.S.CountedStore.byte_count c.args.store.now) c.place.result c.args.bytes.now
    (g.S.CountedStore.stable c.args.store.now) (g.S.CountedStore.stable c.prepare.new.self) c.requires.part c.requires.below.size c.place.ensures (g.met.S.CountedStore.told_length c.args.store.now) c.requires.kept put).1)
    c.prepare.ensures.writes.ok

pub returns-clause-writes : goal.returns-clause-writes
returns-clause-writes g c = record {
  ok =
      on_ok_weaker c.prepare.result
      (λ put. (put_part c.args.table.now c.args.at (g.S.CountedStore.byte_count c.args.store.now) c.place.result c.args.bytes.now
      (g.S.CountedStore.stable c.args.store.now) (g.S.CountedStore.stable c.prepare.new.self) c.requires.part c.requires.below.size c.place.ensures (g.met.S.CountedStore.told_length c.args.store.now) c.requires.kept put).0)
      c.prepare.ensures.writes.ok;
  torn =
      on_err_weaker c.prepare.result
      (λ torn. torn_part c.args.table.now c.args.at (length c.args.bytes.now) (g.S.CountedStore.byte_count c.args.store.now) c.place.result c.requires.part c.requires.below.size c.place.ensures
      (g.S.CountedStore.stable c.args.store.now) (g.S.CountedStore.stable c.prepare.new.self) (g.met.S.CountedStore.told_length c.args.store.now) c.requires.kept torn)
      c.prepare.ensures.writes.torn;
}

pub returns-clause-calls : goal.returns-clause-calls
returns-clause-calls g c =
    made_as (calls_at c.place.result (length c.args.bytes.now)) 1 (g.S.CountedStore.meter c.args.store.now).programs (g.S.CountedStore.meter c.prepare.new.self).programs c.prepare.result
    (part_call c.args.table.now.entries c.args.at (length c.args.bytes.now) c.place.result c.place.ensures c.requires.part) c.prepare.ensures.calls
