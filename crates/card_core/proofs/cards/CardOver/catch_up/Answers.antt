use Rattle.std.proofs.Common.{sym, ◌∙◌, true≢false}
use Rattle.card_core.specs.Cards.{parts_of}
use Rattle.card_core.proofs.RestartLemmas.{boxes_there, due_is}
use Rattle.card_core.proofs.cards.CardOver.catch_up.Goals as goal

pub restart-requires-clause-boxes : goal.restart-requires-clause-boxes
restart-requires-clause-boxes g c = boxes_there (parts_of g.S.Store g.B.Applet c.args.self.now) c.requires.ready.good

pub returns-then-self-clause-same : goal.returns-then-self-clause-same
returns-then-self-clause-same g c = c.restart.ensures.restarted ∙ sym (due_is (parts_of g.S.Store g.B.Applet c.args.self.now) c.if-self.true)

pub returns-then-self-clause-stays : goal.returns-then-self-clause-stays
returns-then-self-clause-stays g c = λ rests. absurd (true≢false (sym c.if-self.true ∙ rests))
