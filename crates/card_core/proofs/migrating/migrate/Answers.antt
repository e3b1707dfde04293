use Rattle.std.proofs.Common.{◌∙◌, sym, inl, inr}
use Rattle.card_core.proofs.MigratedLemmas.{stays}
use Rattle.card_core.proofs.migrating.migrate.Goals as goal

pub returns-then-loaded-clause-migrated : goal.returns-then-loaded-clause-migrated
returns-then-loaded-clause-migrated g c =
    stays c.migration_stands.ensures.others (g.S.Store.store_mark c.args.store.now) (g.S.Store.stable c.args.store.now) c.args.loaded.now c.requires.mounted.agrees (inl c.if-loaded.true)

pub returns-then-not-all_end_low-clause-migrated : goal.returns-then-not-all_end_low-clause-migrated
returns-then-not-all_end_low-clause-migrated g c =
    stays c.migration_stands.ensures.others (g.S.Store.store_mark c.args.store.now) (g.S.Store.stable c.args.store.now) c.args.loaded.now c.requires.mounted.agrees (inr (sym c.all_end_low.ensures ∙ c.if-not-all_end_low.true))
