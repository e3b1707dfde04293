use Rattle.std.proofs.Common.{get_or, ◌≡◌, ◌<◌, true, false, length, take, ℕ}
use Rattle.page_store.specs.Pages.{is_among, is_right}
use Rattle.page_store.proofs.tables.named.Given as goal

abbrev pub invariant-loop-k : goal.invariant-loop-k
invariant-loop-k l = record {
  long : length l.named ≡ 1120;
  right : (i : ℕ) → i < l.k → is_right l.entries i ≡ true;
  same : (page : ℕ) → page < 1120 → get_or l.named page false ≡ is_among (take l.k l.entries) page;
}
