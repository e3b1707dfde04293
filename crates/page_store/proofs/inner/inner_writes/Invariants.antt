use Rattle.std.proofs.Common.{◌≡◌, ◌*◌, ◌≤◌, length, map, take}
use Rattle.store_form.specs.Pieces.{byte_total}
use Rattle.page_store.specs.Commits.{inner_piece}
use Rattle.page_store.proofs.inner.inner_writes.Given as goal

abbrev pub invariant-loop-at : goal.invariant-loop-at
invariant-loop-at l = record {
  so_far : l.inner ≡ map (inner_piece l.fn.table.entries) (take l.at l.writes);
  few : byte_total l.inner ≤ 64 * length l.inner;
}
