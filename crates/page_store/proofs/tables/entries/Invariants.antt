use Rattle.std.proofs.Common.{get_or, ◌≡◌, ◌*◌, ◌<◌, ℕ, length}
use Rattle.page_store.specs.Pages.{number_at}
use Rattle.page_store.proofs.tables.entries.Given as goal

abbrev pub invariant-loop-k : goal.invariant-loop-k
invariant-loop-k l = record {
  long : length l.entries ≡ 1011;
  read : (i : ℕ) → i < l.k → get_or l.entries i 0 ≡ number_at l.bytes (2 * i);
}
