use Rattle.std.proofs.Common.{sym, ◌∙◌, ap, subst}
use Rattle.card_core.specs.Cards.{parts_of, card_of, IsCardReady}
use Rattle.card_core.proofs.RestartLemmas.{metered, metered_same, armed_ready}
use Rattle.card_core.proofs.cards.CardOver.arm.Goals as goal

pub returns-clause-ready : goal.returns-clause-ready
returns-clause-ready g c =
    subst IsCardReady (sym (metered (parts_of g.S.Store g.B.Applet c.args.self.now) _ _ _ _ _ _ _ _ c.arm.ensures.ready c.arm.ensures.keeps.size c.arm.ensures.keeps.mark c.arm.ensures.keeps.stable c.arm.ensures.keeps.commits c.arm.ensures.asked.reads c.arm.ensures.asked.recoveries))
    (armed_ready (parts_of g.S.Store g.B.Applet c.args.self.now) (g.S.Store.meter c.arm.new.self) c.args.plan c.arm.ensures.plan c.requires.ready)

pub returns-clause-same : goal.returns-clause-same
returns-clause-same g c =
    ap card_of (metered (parts_of g.S.Store g.B.Applet c.args.self.now) _ _ _ _ _ _ _ _ c.arm.ensures.ready c.arm.ensures.keeps.size c.arm.ensures.keeps.mark c.arm.ensures.keeps.stable c.arm.ensures.keeps.commits c.arm.ensures.asked.reads c.arm.ensures.asked.recoveries)
    ∙ metered_same (parts_of g.S.Store g.B.Applet c.args.self.now) (g.S.Store.meter c.arm.new.self)
