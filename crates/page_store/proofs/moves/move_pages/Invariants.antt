use Rattle.std.proofs.Common.{◌≡◌, true}
use Rattle.uicc_types.specs.Calls.{IsCalm}
use Rattle.page_store.specs.Commits.{moved_below, Moves}
use Rattle.page_store.specs.Tables.{IsPool}
use Rattle.page_store.proofs.CallsLemmas.{PagesLeft}
use Rattle.page_store.proofs.moves.move_pages.Given as goal

abbrev pub invariant-loop-page : goal.invariant-loop-page
invariant-loop-page g l = record {
  moves : Moves l.writes l.page l.initial.table l.table (g.S.CountedStore.stable l.initial.store) (g.S.CountedStore.stable l.store);
  pool : IsPool l.table;
  table : l.table ≡ moved_below l.writes l.page l.initial.table;
  recovered : g.S.CountedStore.recovered l.store ≡ true;
  size : g.S.CountedStore.byte_count l.store ≡ g.S.CountedStore.byte_count l.initial.store;
  mark : g.S.CountedStore.store_mark l.store ≡ g.S.CountedStore.store_mark l.initial.store;
  calls : PagesLeft l.writes l.page (g.S.CountedStore.meter l.initial.store).programs (g.S.CountedStore.meter l.store).programs;
  calm : IsCalm (g.S.CountedStore.meter l.initial.store) (g.S.CountedStore.meter l.store);
}
