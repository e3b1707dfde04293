-- The entries so far name the pages from 45 on, in order; a map has 2,022 bytes.
use Rattle.std.proofs.Common.{◌≡◌, ◌+◌, ◌*◌, ◌<◌, ℕ, length}
use Rattle.page_store.specs.Pages.{number_at}
use Rattle.page_store.proofs.filling.first_map.Given as goal

abbrev pub invariant-loop-k : goal.invariant-loop-k
invariant-loop-k l = record {
  each : (i : ℕ) → i < l.k → number_at l.bytes (2 * i) ≡ 45 + i;
  long : length l.bytes ≡ 2022;
}
