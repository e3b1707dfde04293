use Rattle.std.proofs.Common.{◌≡◌, ◌*◌, true}
use Rattle.uicc_types.specs.Told.{Becomes}
use Rattle.uicc_types.specs.Calls.{IsCalm}
use Rattle.page_store.proofs.BlanksLemmas.{IsFilling}
use Rattle.page_store.proofs.CallsLemmas.{BlanksLeft}
use Rattle.page_store.proofs.filling.fill_pages.Given as goal

abbrev pub invariant-loop-page : goal.invariant-loop-page
invariant-loop-page g l = record {
  filling : Becomes (IsFilling (64 * l.page)) (g.S.CountedStore.stable l.initial.store) (g.S.CountedStore.stable l.store);
  recovered : g.S.CountedStore.recovered l.store ≡ true;
  size : g.S.CountedStore.byte_count l.store ≡ g.S.CountedStore.byte_count l.initial.store;
  mark : g.S.CountedStore.store_mark l.store ≡ g.S.CountedStore.store_mark l.initial.store;
  calls : BlanksLeft l.page (g.S.CountedStore.meter l.initial.store).programs (g.S.CountedStore.meter l.store).programs;
  calm : IsCalm (g.S.CountedStore.meter l.initial.store) (g.S.CountedStore.meter l.store);
}
