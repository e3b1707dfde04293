use Rattle.std.proofs.Common.{arith}
use Rattle.update_journal.proofs.EntriesLemmas.{next_entry}
use Rattle.page_store.proofs.inner.inner_writes.Goals as goal

pub add_inner-requires-clause-short : goal.add_inner-requires-clause-short
add_inner-requires-clause-short c =
    let next = next_entry c.args.writes.now c.loop-at.at _ c.piece-place.ensures in omega (arith, next.2, c.len-at-end.ensures.bounds.total)
