-- A part copied behind a copied one makes one longer copy, as source and target are apart; where one is torn, the target alone is.
use Rattle.std.proofs.Common.{refl, ◌∙◌, arith, rules}
use Rattle.list_laws.proofs.IfSomeLemmas.{on_err}
use Rattle.uicc_types.proofs.IsCalmLemmas.{calm_same, caused_then, calm_ok}
use Rattle.card_commits.specs.Prepared.{copied}
use Rattle.card_commits.proofs.FilledLemmas.{whole_of, copied_keeps, copied_none, copied_on, torn_on}
use Rattle.card_commits.proofs.prepared_pieces.copy.Goals as goal

pub loop-done-init : goal.loop-done-init
loop-done-init g c = record {
  bound = omega arith;
  put = copied_none c.args.from c.args.at (g.S.Store.stable c.args.store.now);
  told = refl;
  recovered = c.requires.ready.recovered;
  commits = refl;
  size = refl;
  mark = refl;
  recoveries = refl;
  calm = calm_same (g.S.Store.meter c.args.store.now);
}

pub returns-in_err-copy_part : goal.returns-in_err-copy_part
returns-in_err-copy_part g c =
    let whole = whole_of (g.S.Store.stable c.args.store.now) (g.S.Store.byte_count c.args.store.now) c.requires.ready.size (g.met.S.Store.told_length c.args.store.now) in
    record {
      ok = search rules;
      torn = on_err c.from_residual.result
          (torn_on c.args.at c.loop-done.done c.next_count-part.result c.args.count (copied c.args.from c.args.at c.loop-done.done)
          (copied_keeps c.args.from c.args.at c.loop-done.done (omega (arith, c.requires.source.inside, c.loop-done.invariant.bound)) (omega (arith, c.requires.range.inside, c.loop-done.invariant.bound)))
          (g.S.Store.stable c.args.store.now) (g.S.Store.stable c.loop-done.store) (g.S.Store.stable c.copy_part.new.store) whole (omega (arith, c.next_count-part.ensures.few, c.loop-done-test.true))
          c.loop-done.invariant.put c.in_err-copy_part.ensures.torn);
      commits = c.copy_part.ensures.commits ∙ c.loop-done.invariant.commits;
      keeps = search rules;
    }

pub loop-done-preserved : goal.loop-done-preserved
loop-done-preserved g c =
    let whole = whole_of (g.S.Store.stable c.args.store.now) (g.S.Store.byte_count c.args.store.now) c.requires.ready.size (g.met.S.Store.told_length c.args.store.now) in
    record {
      bound = omega (arith, c.next_count-part.ensures.few, c.loop-done-test.true);
      put = copied_on c.args.from c.args.at c.loop-done.done c.next_count-part.result c.args.count (g.S.Store.stable c.args.store.now) (g.S.Store.stable c.loop-done.store) (g.S.Store.stable c.copy_part.new.store) whole
          (omega (arith, c.next_count-part.ensures.few, c.loop-done-test.true)) c.requires.source.inside c.requires.range.inside c.requires.apart c.loop-done.invariant.put c.in_ok-copy_part.ensures.ok;
      told = c.in_ok-copy_part.ensures.keeps.told ∙ c.loop-done.invariant.told;
      recovered = c.in_ok-copy_part.ensures.keeps.ready;
      commits = c.in_ok-copy_part.ensures.commits ∙ c.loop-done.invariant.commits;
      size = c.in_ok-copy_part.ensures.keeps.size ∙ c.loop-done.invariant.size;
      mark = c.in_ok-copy_part.ensures.keeps.mark ∙ c.loop-done.invariant.mark;
      recoveries = c.in_ok-copy_part.ensures.keeps.recoveries ∙ c.loop-done.invariant.recoveries;
      calm = caused_then _ (g.S.Store.meter c.loop-done.store) _ c.loop-done.invariant.calm (calm_ok _ _ (λ failed. cc) (λ lost. cc) c.in_ok-copy_part.ensures.keeps.cause);
    }
