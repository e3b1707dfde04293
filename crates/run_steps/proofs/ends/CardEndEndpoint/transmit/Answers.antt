use Rattle.std.proofs.Common.{refl, ap, subst}
use Rattle.t0_link.specs.Transmitting.{Transmits}
use Rattle.card_core.specs.Cards.{parts_of}
use Rattle.run_steps.specs.Ends.{End, MeetsAnswer, MeetsCut}
use Rattle.run_steps.proofs.DeliversLemmas.{transmits}
use Rattle.run_steps.proofs.ends.CardEndEndpoint.transmit.Goals as goal

pub returns-clause-moves : goal.returns-clause-moves
returns-clause-moves g c =
    let old : End = record { parts = parts_of g.S.Store g.B.Applet c.self.inside.card; waiting = c.self.inside.waiting } in
    let new : End = record { parts = parts_of g.S.Store g.B.Applet c.send.new.card; waiting = c.self.inside.waiting } in
    subst (λ (end : End). Transmits {E = End} (λ e. e.parts.is_on) MeetsAnswer MeetsCut end new c.args.apdu.now c.send.result c.send.new.out) c.self.view_is
    (transmits c.send.result old new c.args.apdu.now c.send.new.out c.send.ensures.takes refl c.send.ensures.goes c.send.ensures.off.0
    (λ none. ap (λ card. record { parts = parts_of g.S.Store g.B.Applet card; waiting = c.self.inside.waiting }) (c.send.ensures.untouched none)))
