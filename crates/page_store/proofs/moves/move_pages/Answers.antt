-- The touched pages below this one have moved since the commit began, so a fault at the next page leaves the content as it was then.
use Rattle.std.proofs.Common.{if◌then◌else◌, ◌≡◌, sym, ap, ◌∙◌, refl, subst, arith, rules}
use Rattle.list_laws.proofs.IfSomeLemmas.{on_err}
use Rattle.uicc_types.proofs.IsCalmLemmas.{calm_same, caused_then, calm_ok}
use Rattle.page_store.specs.Commits.{is_touched, moved_below, Moves}
use Rattle.page_store.specs.Tables.{Kept, moved, IsTold}
use Rattle.page_store.proofs.CallsLemmas.{all_pages_left, page_done, page_fault, pages_done}
use Rattle.page_store.proofs.MovesLemmas.{none_moved, none_below, moved_next}
use Rattle.page_store.proofs.InPageLemmas.{HasLength}
use Rattle.page_store.proofs.moves.move_pages.Goals as goal

pub loop-page-init : goal.loop-page-init
loop-page-init g c = record {
  moves = none_moved c.args.writes.now c.args.table.now (g.S.CountedStore.stable c.args.store.now) (subst (λ n. HasLength (g.S.CountedStore.stable c.args.store.now) n) c.requires.below.size (g.met.S.CountedStore.told_length c.args.store.now)) c.requires.kept;
  pool = c.requires.kept.pool;
  table = sym (none_below c.args.writes.now c.args.table.now);
  recovered = c.requires.below.recovered;
  size = refl;
  mark = refl;
  calls = all_pages_left c.args.writes.now (g.S.CountedStore.meter c.args.store.now).programs;
  calm = calm_same (g.S.CountedStore.meter c.args.store.now);
}

pub returns-in_err-move_touched-clause-same : goal.returns-in_err-move_touched-clause-same
returns-in_err-move_touched-clause-same g c =
    let is : IsTold c.args.table.now (g.S.CountedStore.stable c.args.store.now) = record { long = subst (λ n. HasLength (g.S.CountedStore.stable c.args.store.now) n) c.requires.below.size (g.met.S.CountedStore.told_length c.args.store.now); kept_is = c.requires.kept } in
    on_err c.from_residual.result (c.in_err-move_touched.ensures.moves.same c.args.table.now (g.S.CountedStore.stable c.args.store.now) is c.loop-page.invariant.moves)

pub loop-page-preserved : goal.loop-page-preserved
loop-page-preserved g c =
    let is : IsTold c.args.table.now (g.S.CountedStore.stable c.args.store.now) = record { long = subst (λ n. HasLength (g.S.CountedStore.stable c.args.store.now) n) c.requires.below.size (g.met.S.CountedStore.told_length c.args.store.now); kept_is = c.requires.kept } in
    record {
      moves = c.in_ok-move_touched.ensures.moves.ok c.args.table.now (g.S.CountedStore.stable c.args.store.now) is c.loop-page.invariant.moves;
      pool = c.in_ok-move_touched.ensures.pool;
      table = c.in_ok-move_touched.ensures.moved ∙ ap (λ (kept : Kept). if is_touched c.args.writes.now c.loop-page.page then moved c.loop-page.page kept else kept) c.loop-page.invariant.table
          ∙ sym (moved_next c.args.writes.now c.loop-page.page c.args.table.now c.loop-page.auto.page c.loop-page-test.true);
      recovered = c.in_ok-move_touched.ensures.keeps.ready;
      size = c.in_ok-move_touched.ensures.keeps.size ∙ c.loop-page.invariant.size;
      mark = c.in_ok-move_touched.ensures.keeps.mark ∙ c.loop-page.invariant.mark;
      calls = page_done c.args.writes.now c.loop-page.page (g.S.CountedStore.meter c.args.store.now).programs (g.S.CountedStore.meter c.loop-page.store).programs (g.S.CountedStore.meter c.move_touched.new.store).programs c.loop-page.auto.page c.loop-page-test.true
          c.loop-page.invariant.calls c.in_ok-move_touched.ensures.calls.all;
      calm = caused_then _ (g.S.CountedStore.meter c.loop-page.store) _ c.loop-page.invariant.calm (calm_ok _ _ (λ e. cc) (λ e. cc) c.in_ok-move_touched.ensures.keeps.cause);
    }

pub returns-clause-ok : goal.returns-clause-ok
returns-clause-ok g c =
    let at_end : c.loop-page.page ≡ 1024 = omega arith in
    subst (λ n. Moves c.args.writes.now n c.args.table.now c.loop-page.table (g.S.CountedStore.stable c.args.store.now) (g.S.CountedStore.stable c.loop-page.store)) at_end c.loop-page.invariant.moves

pub returns-clause-moved : goal.returns-clause-moved
returns-clause-moved g c =
    let at_end : c.loop-page.page ≡ 1024 = omega arith in
    c.loop-page.invariant.table ∙ ap (λ n. moved_below c.args.writes.now n c.args.table.now) at_end

pub returns-in_err-move_touched-clause-calls : goal.returns-in_err-move_touched-clause-calls
returns-in_err-move_touched-clause-calls g c = record {
  all = search rules;
  no_more =
      on_err c.from_residual.result (page_fault c.args.writes.now c.loop-page.page (g.S.CountedStore.meter c.args.store.now).programs (g.S.CountedStore.meter c.loop-page.store).programs (g.S.CountedStore.meter c.move_touched.new.store).programs c.loop-page.auto.page c.loop-page-test.true
      c.loop-page.invariant.calls c.in_err-move_touched.ensures.calls.no_more);
}

pub returns-clause-calls : goal.returns-clause-calls
returns-clause-calls g c =
    let at_end : c.loop-page.page ≡ 1024 = omega arith in
    record { all = pages_done c.args.writes.now c.loop-page.page (g.S.CountedStore.meter c.args.store.now).programs (g.S.CountedStore.meter c.loop-page.store).programs at_end c.loop-page.invariant.calls; no_more = search rules }
