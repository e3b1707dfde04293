-- The recovery and the mount leave the mark, the bytes and the commits, so what the rest says of the card holds of it before them.
use Rattle.std.proofs.Common.{◌∙◌, ap, Err}
use Rattle.std.proofs.lemmas.Result.{IfErr-weaker, on_ok_weaker}
use Rattle.card_state.specs.Memory.{memory}
use Rattle.layout_mount.specs.Mounted.{unread}
use Rattle.applet_trait.specs.Minds.{minds_of}
use Rattle.card_core.specs.Starts.{Refuses}
use Rattle.card_core.proofs.HoldsCardLemmas.{table_moved}
use Rattle.card_core.proofs.OpensLemmas.{opens_moved, refuses_moved, recovery_answered, mount_refused}
use Rattle.card_core.proofs.starting.start.Goals as goal

pub test_and_migrate-requires-clause-table : goal.test_and_migrate-requires-clause-table
test_and_migrate-requires-clause-table g c = table_moved _ _ _ _ c.mount.new.into c.mount.ensures.reads.mark c.mount.ensures.reads.stable c.in-Ok.ensures.mounts.table

pub returns-in-Ok-clause-opens : goal.returns-in-Ok-clause-opens
returns-in-Ok-clause-opens g c =
    on_ok_weaker c.test_and_migrate.result
    (opens_moved (unread g.S.Store c.args.store.now) (unread g.S.Store c.mount.new.store) (memory g.S.Store c.test_and_migrate.new.store c.test_and_migrate.new.loaded) (minds_of g.B.Applet.mind c.args.boxes.now)
    (c.mount.ensures.reads.mark ∙ c.recover.ensures.keeps.mark) (c.mount.ensures.reads.stable ∙ c.recover.ensures.keeps.stable) (c.mount.ensures.reads.commits ∙ c.recover.ensures.keeps.commits))
    c.test_and_migrate.ensures.opens

pub returns-in-Ok-clause-recovers : goal.returns-in-Ok-clause-recovers
returns-in-Ok-clause-recovers g c = c.test_and_migrate.ensures.recovers ∙ c.mount.ensures.reads.recoveries ∙ c.recover.ensures.asked.recoveries

pub returns-in-Err-clause-recovers : goal.returns-in-Err-clause-recovers
returns-in-Err-clause-recovers g c = c.mount.ensures.reads.recoveries ∙ c.recover.ensures.asked.recoveries

pub returns-in-Ok-clause-refuses : goal.returns-in-Ok-clause-refuses
returns-in-Ok-clause-refuses g c =
    IfErr-weaker c.test_and_migrate.result
    (Refuses (unread g.S.Store c.mount.new.store) (unread g.S.Store c.test_and_migrate.new.store) (minds_of g.B.Applet.mind c.args.boxes.now))
    (Refuses (unread g.S.Store c.args.store.now) (unread g.S.Store c.test_and_migrate.new.store) (minds_of g.B.Applet.mind c.args.boxes.now))
    (refuses_moved (unread g.S.Store c.args.store.now) (unread g.S.Store c.mount.new.store) (unread g.S.Store c.test_and_migrate.new.store) (minds_of g.B.Applet.mind c.args.boxes.now)
    (c.mount.ensures.reads.mark ∙ c.recover.ensures.keeps.mark) (c.mount.ensures.reads.stable ∙ c.recover.ensures.keeps.stable) (c.mount.ensures.reads.commits ∙ c.recover.ensures.keeps.commits))
    c.test_and_migrate.ensures.refuses

pub returns-in_err-recover-clause-refuses : goal.returns-in_err-recover-clause-refuses
returns-in_err-recover-clause-refuses g c =
    recovery_answered c.from_residual.result (unread g.S.Store c.args.store.now) (unread g.S.Store c.recover.new.self) (minds_of g.B.Applet.mind c.args.boxes.now) c.in_err-recover.field-0.0 c.from_residual.ensures.1
    c.recover.ensures.keeps.stable c.recover.ensures.keeps.commits

pub returns-in-Err-clause-refuses : goal.returns-in-Err-clause-refuses
returns-in-Err-clause-refuses g c =
    refuses_moved (unread g.S.Store c.args.store.now) (unread g.S.Store c.recover.new.self) (unread g.S.Store c.mount.new.store) (minds_of g.B.Applet.mind c.args.boxes.now) c.recover.ensures.keeps.mark c.recover.ensures.keeps.stable c.recover.ensures.keeps.commits
    c.from.result
    (mount_refused c.from.result (unread g.S.Store c.recover.new.self) (unread g.S.Store c.mount.new.store) (minds_of g.B.Applet.mind c.args.boxes.now) c.in-Err.fault c.from.ensures c.mount.ensures.reads.stable c.mount.ensures.reads.commits
    (λ at is. (c.mount.ensures.no_card at (c.in-Err.is ∙ ap Err is)).no_card))
