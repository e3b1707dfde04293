-- The boxes were tested before the migration, which keeps the rows; a fault in it leaves the old card or the migrated one.
use Rattle.std.proofs.Common.{List, refl, sym, subst, ◌∙◌, All}
use Rattle.card_state.specs.Memory.{memory}
use Rattle.card_state.specs.Persistent.{Registration}
use Rattle.layout_mount.specs.Mounted.{unread}
use Rattle.applet_trait.specs.Minds.{minds_of}
use Rattle.card_model.specs.States.{HasBox}
use Rattle.card_core.specs.Migrations.{awaits_migration}
use Rattle.card_core.proofs.CountsMigrationLemmas.{counts_by_table, either_same}
use Rattle.card_core.proofs.HoldsCardLemmas.{holds_card, rows_alike, leaves_store_fault, sound_after_marked}
use Rattle.card_core.proofs.OpensLemmas.{agrees_of, finds_no_box, migration_refused, migrated_rows, read_opened, rests_migrated}
use Rattle.card_core.proofs.starting.test_and_migrate.Goals as goal

pub returns-in-Some-clause-refuses : goal.returns-in-Some-clause-refuses
returns-in-Some-clause-refuses g c = record {
  found =
      finds_no_box c.cards_are_known.ensures.table (g.S.Store.store_mark c.args.store.now) (g.S.Store.stable c.args.store.now) (minds_of g.B.Applet.mind c.args.boxes.now) c.args.loaded.now c.requires.table c.in-Some.shelf
      c.in-Some.ensures.found;
  left = refl;
  commits = refl;
}

pub returns-in-Ok-clause-opens : goal.returns-in-Ok-clause-opens
returns-in-Ok-clause-opens g c =
    let agrees = agrees_of (g.S.Store.store_mark c.args.store.now) (g.S.Store.stable c.args.store.now) c.args.loaded.now c.requires.table in
    record {
      mounted = c.in-Ok.ensures.keeps.mounted;
      read = read_opened (unread g.S.Store c.args.store.now) (memory g.S.Store c.migrate.new.store c.migrate.new.loaded) c.args.loaded.now c.requires.table c.in-Ok.ensures.table c.in-Ok.ensures.commits;
      card = holds_card (g.S.Store.store_mark c.args.store.now) (g.S.Store.stable c.args.store.now) c.args.loaded.now agrees;
      migrated_is = c.in-Ok.ensures.migrated;
      sound =
          sound_after_marked c.standing_is_sound.ensures.sound c.standing_is_sound.ensures.short_records (g.S.Store.store_mark c.args.store.now) (g.S.Store.store_mark c.migrate.new.store) (g.S.Store.stable c.args.store.now)
          (g.S.Store.stable c.migrate.new.store) c.args.loaded.now c.migrate.new.loaded c.migrate.ensures.keeps.mark agrees c.requires.table.bytes c.in-Ok.ensures.keeps.mounted.agrees c.in-Ok.ensures.migrated;
      boxes_are =
          subst (λ (rows : List Registration). All (HasBox (minds_of g.B.Applet.mind c.args.boxes.now)) rows)
          (sym (rows_alike c.migrate.new.loaded c.args.loaded.now (migrated_rows c.args.loaded.now c.migrate.new.loaded c.in-Ok.ensures.table))) c.in_default.ensures.all;
      kinds = c.in_default.ensures.kinds;
      rests = rests_migrated c.args.loaded.now c.migrate.new.loaded c.in-Ok.ensures.table;
      commits = counts_by_table c.migration_stands.ensures.seen c.cards_are_known.ensures.table (g.S.Store.store_mark c.args.store.now) (g.S.Store.stable c.args.store.now) c.args.loaded.now _ _ agrees c.in-Ok.ensures.commits;
    }

pub returns-in-Err-clause-refuses : goal.returns-in-Err-clause-refuses
returns-in-Err-clause-refuses g c =
    let agrees = agrees_of (g.S.Store.store_mark c.args.store.now) (g.S.Store.stable c.args.store.now) c.args.loaded.now c.requires.table in
    migration_refused c.from.result (unread g.S.Store c.args.store.now) (unread g.S.Store c.migrate.new.store) (minds_of g.B.Applet.mind c.args.boxes.now) c.in-Err.fault c.from.ensures
    (leaves_store_fault c.in-Err.fault c.from.result (g.S.Store.store_mark c.args.store.now) (g.S.Store.store_mark c.migrate.new.store) (g.S.Store.stable c.args.store.now) (g.S.Store.stable c.migrate.new.store) c.from.ensures
    c.migrate.ensures.keeps.mark (holds_card (g.S.Store.store_mark c.args.store.now) (g.S.Store.stable c.args.store.now) c.args.loaded.now agrees) c.migrate.ensures.keeps.told c.in-Err.ensures.whole)
    (c.in-Err.ensures.commits ∙ either_same (awaits_migration c.args.loaded.now) _)
