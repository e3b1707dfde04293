use Rattle.std.proofs.Common.{◌≡◌, ◌-◌, ◌≤◌, true, option_map, is_some}
use Rattle.uicc_types.specs.Calls.{IsCalm}
use Rattle.card_commits.specs.Prepared.{filled}
use Rattle.card_commits.proofs.prepared_pieces.fill.Given as goal

abbrev pub decreases-loop-done : goal.decreases-loop-done
decreases-loop-done g l = l.fn.count - l.done

abbrev pub invariant-loop-done : goal.invariant-loop-done
invariant-loop-done g l = record {
  bound : l.done ≤ l.fn.count;
  put : g.S.Store.stable l.store ≡ option_map (filled l.fn.at l.done) (g.S.Store.stable l.initial.store);
  told : is_some (g.S.Store.stable l.store) ≡ is_some (g.S.Store.stable l.initial.store);
  recovered : g.S.Store.recovered l.store ≡ true;
  commits : g.S.Store.commits l.store ≡ g.S.Store.commits l.initial.store;
  size : g.S.Store.byte_count l.store ≡ g.S.Store.byte_count l.initial.store;
  mark : g.S.Store.store_mark l.store ≡ g.S.Store.store_mark l.initial.store;
  recoveries : g.S.Store.recoveries l.store ≡ g.S.Store.recoveries l.initial.store;
  calm : IsCalm (g.S.Store.meter l.initial.store) (g.S.Store.meter l.store);
}
