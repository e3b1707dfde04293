use Rattle.std.proofs.Common.{◌≡◌, slice_range, flat_map}
use Rattle.std.specs.Int.{w16, to_be_bytes}
use Rattle.page_store.proofs.tables.Table.spelled.Given as goal

abbrev pub invariant-loop-k : goal.invariant-loop-k
invariant-loop-k l = l.spelled ≡ flat_map (to_be_bytes w16) (slice_range l.fn.self.entries l.fn.first l.k)
