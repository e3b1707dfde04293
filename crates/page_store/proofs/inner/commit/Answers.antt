use Rattle.std.proofs.Common.{List, inl, inr, sym, ap, ◌∙◌, subst, map, ⊎_elim, option_map, arith, rules}
use Rattle.std.proofs.lemmas.Result.{on_ok_weaker, on_err_weaker}
use Rattle.list_laws.proofs.IfSomeLemmas.{on_err}
use Rattle.store_form.specs.Pieces.{Piece, applied}
use Rattle.store_form.specs.Spared.{AreUsable}
use Rattle.update_journal.specs.Calls.{calls_to_commit}
use Rattle.update_journal.proofs.CallsLemmas.{fewer, then_calls, made_as}
use Rattle.page_store.specs.Calls.{calls_to_move}
use Rattle.page_store.specs.Pages.{content}
use Rattle.page_store.specs.Commits.{done_count, inner_piece}
use Rattle.page_store.proofs.InPageLemmas.{HasLength}
use Rattle.page_store.proofs.EntriesPieceLemmas.{all_inner, small_entries, commit_done}
use Rattle.page_store.proofs.MovesLemmas.{moves_content}
use Rattle.page_store.proofs.inner.commit.Goals as goal

pub commit-requires-clause-usable : goal.commit-requires-clause-usable
commit-requires-clause-usable g c =
    let moves = c.in_ok-move_pages.ensures.ok in
    let kept = c.move_pages.new.table in
    subst (λ (ps : List Piece). AreUsable ps (g.S.CountedStore.byte_count c.move_pages.new.store)) (sym c.inner_writes-inner.ensures)
    (subst (λ n. AreUsable (map (inner_piece kept.entries) c.args.writes.now) n) (sym (c.in_ok-move_pages.ensures.keeps.size ∙ c.requires.below.size)) (all_inner kept.entries moves.pool.count (small_entries kept moves.pool) c.args.writes.now c.requires.pieces.usable))

pub returns-clause-writes : goal.returns-clause-writes
returns-clause-writes g c =
    let long = subst (λ n. HasLength (g.S.CountedStore.stable c.args.store.now) n) c.requires.below.size (g.met.S.CountedStore.told_length c.args.store.now) in
    record {
      ok =
          on_ok_weaker c.commit.result (λ put. (commit_done c.args.writes.now c.args.table.now c.move_pages.new.table (g.S.CountedStore.stable c.args.store.now) (g.S.CountedStore.stable c.move_pages.new.store) (g.S.CountedStore.stable c.commit.new.self)
          c.requires.pieces.usable long c.requires.kept c.in_ok-move_pages.ensures.ok (put ∙ ap (λ (ps : List Piece). option_map (applied ps) (g.S.CountedStore.stable c.move_pages.new.store)) c.inner_writes-inner.ensures)).0) c.commit.ensures.writes.ok;
      whole =
          on_err_weaker c.commit.result (λ whole. ⊎_elim
          (λ same. inl (ap content same ∙ moves_content c.args.writes.now 1024 c.args.table.now c.move_pages.new.table (g.S.CountedStore.stable c.args.store.now) (g.S.CountedStore.stable c.move_pages.new.store) long c.requires.kept c.in_ok-move_pages.ensures.ok))
          (λ put. inr (commit_done c.args.writes.now c.args.table.now c.move_pages.new.table (g.S.CountedStore.stable c.args.store.now) (g.S.CountedStore.stable c.move_pages.new.store) (g.S.CountedStore.stable c.commit.new.self)
          c.requires.pieces.usable long c.requires.kept c.in_ok-move_pages.ensures.ok (put ∙ ap (λ (ps : List Piece). option_map (applied ps) (g.S.CountedStore.stable c.move_pages.new.store)) c.inner_writes-inner.ensures)).0) whole) c.commit.ensures.writes.whole;
    }

pub returns-clause-kept : goal.returns-clause-kept
returns-clause-kept g c =
    let long = subst (λ n. HasLength (g.S.CountedStore.stable c.args.store.now) n) c.requires.below.size (g.met.S.CountedStore.told_length c.args.store.now) in
    on_ok_weaker c.commit.result (λ put. (commit_done c.args.writes.now c.args.table.now c.move_pages.new.table (g.S.CountedStore.stable c.args.store.now) (g.S.CountedStore.stable c.move_pages.new.store) (g.S.CountedStore.stable c.commit.new.self)
    c.requires.pieces.usable long c.requires.kept c.in_ok-move_pages.ensures.ok (put ∙ ap (λ (ps : List Piece). option_map (applied ps) (g.S.CountedStore.stable c.move_pages.new.store)) c.inner_writes-inner.ensures)).1) c.commit.ensures.writes.ok

pub returns-in_err-move_pages-clause-calls : goal.returns-in_err-move_pages-clause-calls
returns-in_err-move_pages-clause-calls g c = record {
  all = search rules;
  no_more =
      on_err c.from_residual.result (fewer (done_count c.args.writes.now 1024) (calls_to_move c.args.writes.now c.args.table.now) (g.S.CountedStore.meter c.args.store.now).programs (g.S.CountedStore.meter c.move_pages.new.store).programs (omega arith)
      c.in_err-move_pages.ensures.calls.no_more);
}

pub returns-clause-calls : goal.returns-clause-calls
returns-clause-calls g c =
    let below = c.inner_writes-inner.ensures ∙ ap (λ kept. map (inner_piece kept.entries) c.args.writes.now) c.in_ok-move_pages.ensures.moved in
    then_calls (done_count c.args.writes.now 1024) _ (g.S.CountedStore.meter c.args.store.now).programs (g.S.CountedStore.meter c.move_pages.new.store).programs (g.S.CountedStore.meter c.commit.new.self).programs c.commit.result
    c.in_ok-move_pages.ensures.calls.all
    (made_as (calls_to_commit c.inner_writes-inner.result) _ (g.S.CountedStore.meter c.move_pages.new.store).programs (g.S.CountedStore.meter c.commit.new.self).programs c.commit.result (ap (λ ps. calls_to_commit ps) below) c.commit.ensures.calls)
