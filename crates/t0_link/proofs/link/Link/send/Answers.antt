use Rattle.std.proofs.Common.{Option, ◌≡◌, ℕ, Ok, Err, sym, ◌∙◌, ap, subst}
use Rattle.apdu_form.specs.Model.{Apdu}
use Rattle.t0_link.specs.Carrying.{received}
use Rattle.t0_link.specs.Exchanging.{Exchanges, IsPassed}
use Rattle.t0_link.specs.Linking.{link_answer}
use Rattle.t0_link.proofs.CourseLemmas.{both_are, carried_passes, command_received, command_stopped}
use Rattle.t0_link.proofs.TpdusSentLemmas.{command_rose}
use Rattle.t0_link.proofs.link.Link.send.Goals as goal

pub returns-in-Ok-clause-moves : goal.returns-in-Ok-clause-moves
returns-in-Ok-clause-moves g c =
    command_received g.E.Endpoint c.args.card.now c.exchange.new.card c.args.self.now.kept c.args.command.now
    (record { answer = c.exchange.new.out; kept = c.exchange.new.self.kept }) (record { answer = c.receive.new.out; kept = c.receive.new.self.kept })
    (both_are (received c.args.command.now.expected (record { answer = c.exchange.new.out; kept = c.exchange.new.self.kept })) c.receive.new.out c.receive.new.self.kept
    (subst (λ (expected : Option ℕ). c.receive.new.out ≡ (received expected (record { answer = c.exchange.new.out; kept = c.exchange.new.self.kept })).answer) (ap (λ (command : Apdu). command.expected) c.command.view_is) c.receive.ensures.answer)
    (subst (λ (expected : Option ℕ). c.receive.new.self.kept ≡ (received expected (record { answer = c.exchange.new.out; kept = c.exchange.new.self.kept })).kept) (ap (λ (command : Apdu). command.expected) c.command.view_is) c.receive.ensures.kept))
    (subst (λ tpdu. Exchanges g.E.Endpoint c.args.card.now c.exchange.new.card (link_answer c.args.self.now.kept tpdu) (Ok tt) (record { answer = c.exchange.new.out; kept = c.exchange.new.self.kept }))
    (c.as_slice.ensures.value ∙ c.tpdu_of-tpdu.ensures) c.in-Ok.ensures.moves)

pub returns-in-Ok-clause-off : goal.returns-in-Ok-clause-off
returns-in-Ok-clause-off g c = (λ is. cc is, λ off. cc (c.in-Ok.ensures.off.1 (subst (λ tpdu. IsPassed (link_answer c.args.self.now.kept tpdu)) (sym (c.as_slice.ensures.value ∙ c.tpdu_of-tpdu.ensures)) (carried_passes c.args.self.now.kept c.args.command.now c.requires.carried), off)))

pub returns-in-Err-clause-moves : goal.returns-in-Err-clause-moves
returns-in-Err-clause-moves g c =
    command_stopped g.E.Endpoint c.args.card.now c.exchange.new.card c.args.self.now.kept c.args.command.now c.in-Err.fault
    (record { answer = c.exchange.new.out; kept = c.exchange.new.self.kept }) (record { answer = c.exchange.new.out; kept = c.exchange.new.self.kept })
    (subst (λ tpdu. Exchanges g.E.Endpoint c.args.card.now c.exchange.new.card (link_answer c.args.self.now.kept tpdu) (Err c.in-Err.fault) (record { answer = c.exchange.new.out; kept = c.exchange.new.self.kept }))
    (c.as_slice.ensures.value ∙ c.tpdu_of-tpdu.ensures) c.in-Err.ensures.moves)

pub returns-in-Ok-clause-tpdus : goal.returns-in-Ok-clause-tpdus
returns-in-Ok-clause-tpdus g c =
    command_rose g.E.Endpoint c.args.card.now c.exchange.new.card c.args.self.now.kept c.args.command.now (record { answer = c.exchange.new.out; kept = c.exchange.new.self.kept }) c.receive.new.out
    c.args.self.now.tpdus c.exchange.new.self.tpdus c.receive.new.self.tpdus c.requires.carried
    (subst (λ tpdu. Exchanges g.E.Endpoint c.args.card.now c.exchange.new.card (link_answer c.args.self.now.kept tpdu) (Ok tt) (record { answer = c.exchange.new.out; kept = c.exchange.new.self.kept }))
    (c.as_slice.ensures.value ∙ c.tpdu_of-tpdu.ensures) c.in-Ok.ensures.moves)
    (subst (λ (expected : Option ℕ). c.receive.new.out ≡ (received expected (record { answer = c.exchange.new.out; kept = c.exchange.new.self.kept })).answer) (ap (λ (command : Apdu). command.expected) c.command.view_is) c.receive.ensures.answer)
    c.in-Ok.ensures.tpdus c.receive.ensures.tpdus
