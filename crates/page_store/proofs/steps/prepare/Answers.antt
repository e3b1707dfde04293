-- What was put page by page joins to one write of the bytes so far, and a part that a fault tears lies inside the whole range.
use Rattle.std.proofs.Common.{◌≡◌, ◌+◌, ◌-◌, List, ℕ, length, drop, refl, ap, ◌∙◌, arith, rules, option_map, length-drop, length-take, take_all}
use Rattle.list_laws.proofs.IfSomeLemmas.{on_err}
use Rattle.list_laws.specs.Patches.{patched}
use Rattle.uicc_types.proofs.IsCalmLemmas.{calm_same, caused_then, calm_ok}
use Rattle.update_journal.specs.Calls.{calls_at}
use Rattle.update_journal.proofs.CallsLemmas.{after_some, none_left, fault_in, no_calls, some_call}
use Rattle.update_journal.proofs.PatchedLemmas.{patched-none}
use Rattle.page_store.specs.Pages.{content}
use Rattle.page_store.specs.Laws.{told_content}
use Rattle.page_store.proofs.CallsLemmas.{all_left_at, part_next}
use Rattle.page_store.proofs.InPageLemmas.{put_on, torn_next}
use Rattle.page_store.proofs.steps.prepare.Goals as goal

pub loop-done-init : goal.loop-done-init
loop-done-init g c = record {
  bound = omega arith;
  put = patched-none c.args.at (content (g.S.CountedStore.stable c.args.store.now));
  kept = c.requires.kept;
  recovered = c.requires.below.recovered;
  size = refl;
  mark = refl;
  calls = all_left_at c.args.at (length c.args.bytes.now) (g.S.CountedStore.meter c.args.store.now).programs;
  calm = calm_same (g.S.CountedStore.meter c.args.store.now);
}

pub returns-in_err-prepare_part-clause-writes : goal.returns-in_err-prepare_part-clause-writes
returns-in_err-prepare_part-clause-writes g c = record {
  ok = search rules;
  torn =
      on_err c.from_residual.result (torn_next c.args.at c.loop-done.done _ (c.args.at + c.loop-done.done) 65536 c.args.bytes.now (content (g.S.CountedStore.stable c.args.store.now)) (content (g.S.CountedStore.stable c.loop-done.store)) (content (g.S.CountedStore.stable c.prepare_part.new.store))
      (told_content (g.S.CountedStore.stable c.args.store.now)) (omega (arith, length-take (c.loop-done.done + c.min-count.result - c.loop-done.done) (drop c.loop-done.done c.args.bytes.now), length-drop c.loop-done.done c.args.bytes.now, c.loop-done.invariant.bound)) (omega (arith, c.requires.usable.inside)) refl c.loop-done.invariant.put c.in_err-prepare_part.ensures.writes.torn);
}

pub loop-done-preserved : goal.loop-done-preserved
loop-done-preserved g c = record {
  bound = omega (arith, c.min-count.ensures, c.loop-done.invariant.bound, c.loop-done-test.true);
  put = put_on c.args.at c.loop-done.done c.min-count.result (c.args.at + c.loop-done.done) 65536 c.args.bytes.now (content (g.S.CountedStore.stable c.args.store.now)) (content (g.S.CountedStore.stable c.loop-done.store)) (content (g.S.CountedStore.stable c.prepare_part.new.store))
      (told_content (g.S.CountedStore.stable c.args.store.now)) (omega (arith, c.min-count.ensures, c.loop-done.invariant.bound, c.loop-done-test.true)) (omega (arith, c.requires.usable.inside)) refl c.loop-done.invariant.put c.in_ok-prepare_part.ensures.writes.ok;
  kept = c.in_ok-prepare_part.ensures.kept;
  recovered = c.in_ok-prepare_part.ensures.keeps.ready;
  size = c.in_ok-prepare_part.ensures.keeps.size ∙ c.loop-done.invariant.size;
  mark = c.in_ok-prepare_part.ensures.keeps.mark ∙ c.loop-done.invariant.mark;
  calls = after_some 1 (calls_at (c.args.at + c.loop-done.done) (length c.args.bytes.now - c.loop-done.done)) (calls_at (c.args.at + (c.loop-done.done + c.min-count.result)) (length c.args.bytes.now - (c.loop-done.done + c.min-count.result)))
      (calls_at c.args.at (length c.args.bytes.now)) (g.S.CountedStore.meter c.args.store.now).programs (g.S.CountedStore.meter c.loop-done.store).programs (g.S.CountedStore.meter c.prepare_part.new.store).programs c.loop-done.invariant.calls
      (part_next c.args.at c.loop-done.done c.min-count.result (length c.args.bytes.now) (omega (arith, c.loop-done-test.true)) (omega (arith, c.min-count.ensures))) c.in_ok-prepare_part.ensures.calls.all;
  calm = caused_then _ (g.S.CountedStore.meter c.loop-done.store) _ c.loop-done.invariant.calm (calm_ok _ _ (λ e. cc) (λ e. cc) c.in_ok-prepare_part.ensures.keeps.cause);
}

pub returns-clause-writes : goal.returns-clause-writes
returns-clause-writes g c = record {
  ok = c.loop-done.invariant.put ∙ ap (λ (l : List ℕ). option_map (patched c.args.at l) (content (g.S.CountedStore.stable c.args.store.now))) (take_all c.loop-done.done c.args.bytes.now (omega (arith, c.loop-done-test.false)));
  torn = search rules;
}

pub returns-in_err-prepare_part-clause-calls : goal.returns-in_err-prepare_part-clause-calls
returns-in_err-prepare_part-clause-calls g c = record {
  all = search rules;
  no_more =
      on_err c.from_residual.result (fault_in 1 (calls_at (c.args.at + c.loop-done.done) (length c.args.bytes.now - c.loop-done.done)) (calls_at c.args.at (length c.args.bytes.now)) (g.S.CountedStore.meter c.args.store.now).programs
      (g.S.CountedStore.meter c.loop-done.store).programs (g.S.CountedStore.meter c.prepare_part.new.store).programs c.loop-done.invariant.calls (some_call (c.args.at + c.loop-done.done) (length c.args.bytes.now - c.loop-done.done) (omega (arith, c.loop-done-test.true)))
      c.in_err-prepare_part.ensures.calls.no_more);
}

pub returns-clause-calls : goal.returns-clause-calls
returns-clause-calls g c = record {
  all =
      let none : length c.args.bytes.now - c.loop-done.done ≡ 0 = omega (arith, c.loop-done-test.false) in
      none_left (calls_at (c.args.at + c.loop-done.done) (length c.args.bytes.now - c.loop-done.done)) (calls_at c.args.at (length c.args.bytes.now)) (g.S.CountedStore.meter c.args.store.now).programs (g.S.CountedStore.meter c.loop-done.store).programs
      c.loop-done.invariant.calls (ap (λ n. calls_at (c.args.at + c.loop-done.done) n) none ∙ no_calls (c.args.at + c.loop-done.done));
  no_more = search rules;
}
