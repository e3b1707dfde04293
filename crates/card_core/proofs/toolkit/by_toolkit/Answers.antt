use Rattle.std.proofs.Common.{inl}
use Rattle.list_laws.proofs.IfSomeLemmas.{on_err}
use Rattle.card_core.proofs.toolkit.by_toolkit.Goals as goal

pub keys_seen-seen-requires : goal.keys_seen-seen-requires
keys_seen-seen-requires g c = record { own = c.keys_are_own.ensures (g.S.Store.store_mark c.args.store.now) (g.S.Store.stable c.args.store.now) c.args.loaded.now c.requires.rests.mounted.agrees }

pub keys_seen-seen-requires-in-DeleteApplet : goal.keys_seen-seen-requires-in-DeleteApplet
keys_seen-seen-requires-in-DeleteApplet g c = record { own = c.keys_are_own.ensures (g.S.Store.store_mark c.args.store.now) (g.S.Store.stable c.args.store.now) c.args.loaded.now c.requires.rests.mounted.agrees }

pub returns-in-InstallApplet-clause-keeps : goal.returns-in-InstallApplet-clause-keeps
returns-in-InstallApplet-clause-keeps g c =
    let kept = c.install.ensures.keeps in
    record {
      kinds = inl kept.kinds;
      boxes = on_err c.install.result kept.kinds;
      others = λ shelf lacked lacks. kept.others shelf lacks;
      rows_stay = λ other apart has. kept.rows_stay other has;
      indexed = kept.indexed;
      table = kept.table;
      next = λ other. absurd (other c.in-InstallApplet.is);
      kept = kept.kept;
      keeps = record { mounted = kept.keeps.mounted; told = kept.keeps.told; size = kept.keeps.size; mark = kept.keeps.mark; recoveries = kept.keeps.recoveries; cause = kept.keeps.cause };
    }
