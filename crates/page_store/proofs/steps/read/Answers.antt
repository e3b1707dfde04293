use Rattle.std.proofs.Common.{◌≡◌, ◌≤◌, ◌+◌, ℕ, length, sym, ◌∙◌, subst, arith, slice_range, IfSome}
use Rattle.uicc_types.proofs.IsCalmLemmas.{caused_then, calm_ok}
use Rattle.page_store.specs.Pages.{content}
use Rattle.page_store.specs.Laws.{told_content}
use Rattle.page_store.proofs.InPageLemmas.{Told, seen_on, part_length, mid_length}
use Rattle.page_store.proofs.steps.read.Goals as goal

pub loop-done-preserved : goal.loop-done-preserved
loop-done-preserved g c =
    let now = c.loop-done.invariant in
    let fits : c.loop-done.done + c.min-count.result ≤ length c.loop-done.out = omega (arith, c.min-count.ensures, now.bound, c.loop-done-test.true) in
    let part : length c.read_part.new.out ≡ c.min-count.result = part_length c.loop-done.out c.read_part.new.out c.loop-done.done c.min-count.result fits c.read_part.auto.out in
    let long = mid_length c.loop-done.out c.read_part.new.out c.loop-done.done c.min-count.result fits part in
    let from : Told → ℕ → Type 0 = λ o n. IfSome (content o) (λ held. c.read_part.new.out ≡ slice_range held (c.args.at + c.loop-done.done) (c.args.at + c.loop-done.done + n)) in
    let next = subst (λ o. from o c.min-count.result) now.stable (subst (λ n. from (g.S.CountedStore.stable c.loop-done.store) n) (sym c.read_part.auto.out ∙ part) c.in_ok-read_part.ensures.ok) in
    record {
      bound = omega (arith, fits, long);
      long = long ∙ now.long;
      seen = seen_on (content (g.S.CountedStore.stable c.args.store.now)) c.args.at c.loop-done.done c.min-count.result _ 65536 c.loop-done.out c.read_part.new.out (told_content (g.S.CountedStore.stable c.args.store.now)) (omega (arith, c.requires.usable.inside, fits, now.long)) now.bound part now.seen next;
      stable = c.in_ok-read_part.ensures.stable ∙ now.stable;
      recovered = c.in_ok-read_part.ensures.keeps.ready;
      size = c.in_ok-read_part.ensures.keeps.size ∙ now.size;
      mark = c.in_ok-read_part.ensures.keeps.mark ∙ now.mark;
      calls = c.in_ok-read_part.ensures.calls ∙ now.calls;
      calm = caused_then _ (g.S.CountedStore.meter c.loop-done.store) _ now.calm (calm_ok _ _ (λ e. cc) (λ e. cc) c.in_ok-read_part.ensures.keeps.cause);
    }
