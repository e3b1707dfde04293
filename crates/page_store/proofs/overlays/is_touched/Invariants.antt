use Rattle.std.proofs.Common.{◌≡◌, take, false}
use Rattle.page_store.specs.Commits.{is_touched}
use Rattle.page_store.proofs.overlays.is_touched.Given as goal

abbrev pub invariant-loop-at : goal.invariant-loop-at
invariant-loop-at l = is_touched (take l.at l.writes) l.fn.page ≡ false
