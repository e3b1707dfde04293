-- The free pages so far are those of the pool, 1,075 pages from 45 on, up to this one, that the map doesn't name.
use Rattle.std.proofs.Common.{◌≡◌, ◌-◌, not, take}
use Rattle.std.specs.List.{filter, range_with_len}
use Rattle.page_store.specs.Pages.{is_among}
use Rattle.page_store.proofs.tables.free.Given as goal

abbrev pub invariant-loop-page : goal.invariant-loop-page
invariant-loop-page l = l.free.items ≡ filter (λ page. not (is_among l.entries page)) (take (l.page - 45) (range_with_len 45 1075))
