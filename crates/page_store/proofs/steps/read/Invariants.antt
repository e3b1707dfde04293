use Rattle.std.proofs.Common.{◌≡◌, ◌+◌, ◌-◌, ◌≤◌, length, take, true, IfSome, slice_range}
use Rattle.uicc_types.specs.Calls.{IsCalm}
use Rattle.page_store.specs.Pages.{content}
use Rattle.page_store.proofs.steps.read.Given as goal

abbrev pub decreases-loop-done : goal.decreases-loop-done
decreases-loop-done g l = length l.out - l.done

abbrev pub invariant-loop-done : goal.invariant-loop-done
invariant-loop-done g l = record {
  bound : l.done ≤ length l.out;
  long : length l.out ≡ length l.initial.out;
  seen : IfSome (content (g.S.CountedStore.stable l.initial.store)) (λ held. take l.done l.out ≡ slice_range held l.fn.at (l.fn.at + l.done));
  stable : g.S.CountedStore.stable l.store ≡ g.S.CountedStore.stable l.initial.store;
  recovered : g.S.CountedStore.recovered l.store ≡ true;
  size : g.S.CountedStore.byte_count l.store ≡ g.S.CountedStore.byte_count l.initial.store;
  mark : g.S.CountedStore.store_mark l.store ≡ g.S.CountedStore.store_mark l.initial.store;
  calls : (g.S.CountedStore.meter l.store).programs ≡ (g.S.CountedStore.meter l.initial.store).programs;
  calm : IsCalm (g.S.CountedStore.meter l.initial.store) (g.S.CountedStore.meter l.store);
}
