use Rattle.std.proofs.Common.{ℕ, refl, subst}
use Rattle.uicc_types.specs.Counts.{Rose}
use Rattle.card_state.specs.Memory.{memory}
use Rattle.applet_trait.specs.Minds.{minds_of}
use Rattle.card_core.proofs.OpensLemmas.{may_restart_moved, restarts_moved}
use Rattle.card_core.proofs.restarting.restart.Goals as goal

pub mount_again-requires-clause-kept : goal.mount_again-requires-clause-kept
mount_again-requires-clause-kept g c =
    may_restart_moved (memory g.S.Store c.args.store.now c.args.loaded.now) (memory g.S.Store c.recover.new.self c.args.loaded.now) (minds_of g.B.Applet.mind c.args.boxes.now) c.recover.ensures.keeps.size c.recover.ensures.keeps.mark
    c.recover.ensures.keeps.stable refl c.requires.kept

pub returns-clause-restarts : goal.returns-clause-restarts
returns-clause-restarts g c =
    restarts_moved (memory g.S.Store c.args.store.now c.args.loaded.now) (memory g.S.Store c.recover.new.self c.args.loaded.now) (memory g.S.Store c.mount_again.new.store c.mount_again.new.loaded) (minds_of g.B.Applet.mind c.args.boxes.now)
    c.recover.ensures.keeps.mark c.recover.ensures.keeps.stable refl c.in_ok-mount_again.ensures.restarts

pub returns-clause-read : goal.returns-clause-read
returns-clause-read g c = subst (λ (before : ℕ). Rose before (g.S.Store.reads c.mount_again.new.store)) c.recover.ensures.asked.reads c.mount_again.ensures.read
