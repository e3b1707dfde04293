-- Torn upper rows still stand for the narrow card; after them a fault leaves the version written or not: the wide card or the narrow.
use Rattle.std.proofs.Common.{ℕ, inl, ◌∙◌, ap, rules}
use Rattle.list_laws.proofs.IfSomeLemmas.{on_err}
use Rattle.card_state.specs.Standing.{standing}
use Rattle.card_core.proofs.MigratedLemmas.{after_torn, after_version, after_either, agrees_marked, either_marked}
use Rattle.card_core.proofs.migrating.widen.Goals as goal

pub returns-in_err-prepare_upper_rows-clause-committed : goal.returns-in_err-prepare_upper_rows-clause-committed
returns-in_err-prepare_upper_rows-clause-committed g c = record {
  ok = search rules;
  whole =
      on_err c.from_residual.result
      (inl
      (ap (λ (mark : ℕ). standing mark (g.S.Store.stable c.prepare_upper_rows.new.store)) c.prepare_upper_rows.ensures.keeps.mark
      ∙ after_torn (g.S.Store.store_mark c.args.store.now) (g.S.Store.stable c.args.store.now) c.args.loaded.now c.requires.mounted.agrees c.requires.narrow c.requires.low c.migration_stands.ensures.free c.stores_stand.ensures.torn
      (g.S.Store.stable c.prepare_upper_rows.new.store) c.in_err-prepare_upper_rows.ensures.torn));
  commits = search rules;
  keeps = search rules;
}

pub returns-in-Ok-clause-committed : goal.returns-in-Ok-clause-committed
returns-in-Ok-clause-committed g c =
    let stood = after_version (g.S.Store.store_mark c.args.store.now) (g.S.Store.stable c.args.store.now) c.args.loaded.now c.requires.mounted.agrees c.requires.narrow c.requires.low c.migration_stands.ensures.free c.migration_stands.ensures.wide c.stores_stand.ensures.written
    (g.S.Store.stable c.prepare_upper_rows.new.store) (g.S.Store.stable c.commit_wide.new.store) c.in_ok-prepare_upper_rows.ensures.ok c.in-Ok.ensures.ok in
    record {
      ok = ap (λ (mark : ℕ). standing mark (g.S.Store.stable c.commit_wide.new.store)) (c.commit_wide.ensures.keeps.mark ∙ c.prepare_upper_rows.ensures.keeps.mark) ∙ stood.standing_is;
      whole = search rules;
      commits = search rules;
      keeps = record {
        mounted = record {
          ready = c.in-Ok.ensures.keeps.ready;
          size_is = c.commit_wide.ensures.keeps.size ∙ c.prepare_upper_rows.ensures.keeps.size ∙ c.requires.mounted.size_is;
          agrees = agrees_marked _ _ _ _ (c.commit_wide.ensures.keeps.mark ∙ c.prepare_upper_rows.ensures.keeps.mark) stood.agrees;
        };
        told = search rules;
        size = search rules;
        mark = search rules;
        recoveries = search rules;
        cause = search rules;
      };
    }

pub returns-in-Err-clause-committed : goal.returns-in-Err-clause-committed
returns-in-Err-clause-committed g c = record {
  ok = search rules;
  whole =
      either_marked _ _ _ _ _ (c.commit_wide.ensures.keeps.mark ∙ c.prepare_upper_rows.ensures.keeps.mark)
      (after_either (g.S.Store.store_mark c.args.store.now) (g.S.Store.stable c.args.store.now) c.args.loaded.now c.requires.mounted.agrees c.requires.narrow c.requires.low c.migration_stands.ensures.free c.stores_stand.ensures.prepared c.migration_stands.ensures.wide c.stores_stand.ensures.written
      (g.S.Store.stable c.prepare_upper_rows.new.store) (g.S.Store.stable c.commit_wide.new.store) c.in_ok-prepare_upper_rows.ensures.ok c.in-Err.ensures.whole);
  commits = search rules;
  keeps = search rules;
}
