use Rattle.std.proofs.Common.{◌≡◌, ◌+◌, ◌-◌, ◌≤◌, length, take, true, option_map}
use Rattle.list_laws.specs.Patches.{patched}
use Rattle.uicc_types.specs.Calls.{IsCalm}
use Rattle.update_journal.specs.Calls.{calls_at}
use Rattle.update_journal.proofs.CallsLemmas.{CallsLeft}
use Rattle.page_store.specs.Pages.{content}
use Rattle.page_store.specs.Tables.{IsKept}
use Rattle.page_store.proofs.steps.prepare.Given as goal

abbrev pub decreases-loop-done : goal.decreases-loop-done
decreases-loop-done g l = length l.bytes - l.done

abbrev pub invariant-loop-done : goal.invariant-loop-done
invariant-loop-done g l = record {
  bound : l.done ≤ length l.bytes;
  put : content (g.S.CountedStore.stable l.store) ≡ option_map (patched l.fn.at (take l.done l.bytes)) (content (g.S.CountedStore.stable l.initial.store));
  kept : IsKept l.table (g.S.CountedStore.stable l.store);
  recovered : g.S.CountedStore.recovered l.store ≡ true;
  size : g.S.CountedStore.byte_count l.store ≡ g.S.CountedStore.byte_count l.initial.store;
  mark : g.S.CountedStore.store_mark l.store ≡ g.S.CountedStore.store_mark l.initial.store;
  calls : CallsLeft (calls_at (l.fn.at + l.done) (length l.bytes - l.done)) (calls_at l.fn.at (length l.bytes)) (g.S.CountedStore.meter l.initial.store).programs (g.S.CountedStore.meter l.store).programs;
  calm : IsCalm (g.S.CountedStore.meter l.initial.store) (g.S.CountedStore.meter l.store);
}
