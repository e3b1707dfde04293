-- The way a TPDU's data go tells its course: the link answers by itself, never with `NoPower`, or the card's result decides alone.
use Rattle.std.proofs.Common.{◌≡◌, ◌↔◌, false, None, Some, Ok, Err, refl, ap, subst}
use Rattle.t0_link.specs.declared.endpoint.LinkFault.TheVariants.{NoPower}
use Rattle.t0_link.specs.declared.tpdus.Transfer.TheVariants.{GetResponse, Outgoing, Incoming}
use Rattle.t0_link.specs.Exchanging.{Exchanges, IsPassed}
use Rattle.t0_link.specs.Linking.{LinkState, Passes, fetched, kept_back}
use Rattle.t0_link.specs.Tpdus.{p3_of, transfer_in}
use Rattle.t0_link.proofs.CourseLemmas.{both_are, by_kept, given_back, own_off, passed_off}
use Rattle.t0_link.proofs.link.Link.exchange.Goals as goal

pub returns-in-None-clause-moves : goal.returns-in-None-clause-moves
returns-in-None-clause-moves g c =
    by_kept (λ course. Exchanges g.E.Endpoint c.args.card.now c.args.card.now course (Ok tt) (record { answer = c.answer_status.new.out; kept = c.count.new.self.kept }))
    c.count.new.self.kept c.args.self.now.kept c.args.tpdu.now None c.count.ensures.kept c.in-None.ensures.value (refl, ap (λ answer. record { answer = answer; kept = c.count.new.self.kept }) c.answer_status.ensures)

pub returns-in-None-clause-off : goal.returns-in-None-clause-off
returns-in-None-clause-off g c =
    by_kept (λ course. (Ok tt ≡ Err NoPower) ↔ (IsPassed course × (g.E.Endpoint.is_on c.args.card.now ≡ false))) c.count.new.self.kept c.args.self.now.kept c.args.tpdu.now None c.count.ensures.kept c.in-None.ensures.value (own_off (g.E.Endpoint.is_on c.args.card.now))

pub returns-in-Some-GetResponse-clause-moves : goal.returns-in-Some-GetResponse-clause-moves
returns-in-Some-GetResponse-clause-moves g c =
    by_kept (λ course. Exchanges g.E.Endpoint c.args.card.now c.args.card.now course (Ok tt) (record { answer = c.respond.new.out; kept = c.respond.new.self.kept }))
    c.count.new.self.kept c.args.self.now.kept c.args.tpdu.now (Some GetResponse) c.count.ensures.kept (subst (λ way. Some way ≡ transfer_in c.args.tpdu.now) c.in-Some-GetResponse.field-0-is c.in-Some-GetResponse.ensures.value) (refl, both_are (fetched (p3_of c.args.tpdu.now) c.count.new.self.kept) c.respond.new.out c.respond.new.self.kept c.respond.ensures.answer (ap (λ (l : LinkState). l.kept) c.respond.ensures.kept))

pub returns-in-Some-GetResponse-clause-off : goal.returns-in-Some-GetResponse-clause-off
returns-in-Some-GetResponse-clause-off g c =
    by_kept (λ course. (Ok tt ≡ Err NoPower) ↔ (IsPassed course × (g.E.Endpoint.is_on c.args.card.now ≡ false))) c.count.new.self.kept c.args.self.now.kept c.args.tpdu.now (Some GetResponse) c.count.ensures.kept (subst (λ way. Some way ≡ transfer_in c.args.tpdu.now) c.in-Some-GetResponse.field-0-is c.in-Some-GetResponse.ensures.value) (own_off (g.E.Endpoint.is_on c.args.card.now))

pub returns-in-Some-Outgoing-clause-moves : goal.returns-in-Some-Outgoing-clause-moves
returns-in-Some-Outgoing-clause-moves g c =
    by_kept (λ course. Exchanges g.E.Endpoint c.args.card.now c.transmit.new.self course c.transmit.result (record { answer = c.transmit.new.out; kept = c.clear.new.self.kept }))
    c.count.new.self.kept c.args.self.now.kept c.args.tpdu.now (Some Outgoing) c.count.ensures.kept (subst (λ way. Some way ≡ transfer_in c.args.tpdu.now) c.in-Some-Outgoing.field-0-is c.in-Some-Outgoing.ensures.value)
    (given_back g.E.Endpoint c.args.card.now c.transmit.new.self c.args.tpdu.now c.transmit.result c.transmit.new.out c.clear.new.self.kept (ap (λ (l : LinkState). l.kept) c.clear.ensures) c.transmit.ensures.moves)

pub returns-in-Some-Outgoing-clause-off : goal.returns-in-Some-Outgoing-clause-off
returns-in-Some-Outgoing-clause-off g c =
    by_kept (λ course. (c.transmit.result ≡ Err NoPower) ↔ (IsPassed course × (g.E.Endpoint.is_on c.args.card.now ≡ false))) c.count.new.self.kept c.args.self.now.kept c.args.tpdu.now (Some Outgoing) c.count.ensures.kept (subst (λ way. Some way ≡ transfer_in c.args.tpdu.now) c.in-Some-Outgoing.field-0-is c.in-Some-Outgoing.ensures.value)
    (passed_off c.transmit.result (g.E.Endpoint.is_on c.args.card.now) c.transmit.ensures.off)

pub returns-in-Some-Incoming-clause-moves : goal.returns-in-Some-Incoming-clause-moves
returns-in-Some-Incoming-clause-moves g c =
    by_kept (λ course. Exchanges g.E.Endpoint c.args.card.now c.pass_and_keep.new.card course c.pass_and_keep.result (record { answer = c.pass_and_keep.new.out; kept = c.pass_and_keep.new.self.kept }))
    c.count.new.self.kept c.args.self.now.kept c.args.tpdu.now (Some Incoming) c.count.ensures.kept (subst (λ way. Some way ≡ transfer_in c.args.tpdu.now) c.in-Some-Incoming.field-0-is c.in-Some-Incoming.ensures.value)
    (subst (λ apdu. Exchanges g.E.Endpoint c.args.card.now c.pass_and_keep.new.card (Passes apdu kept_back) c.pass_and_keep.result (record { answer = c.pass_and_keep.new.out; kept = c.pass_and_keep.new.self.kept })) c.apdu_of.ensures c.pass_and_keep.ensures.moves)

pub returns-in-Some-Incoming-clause-off : goal.returns-in-Some-Incoming-clause-off
returns-in-Some-Incoming-clause-off g c =
    by_kept (λ course. (c.pass_and_keep.result ≡ Err NoPower) ↔ (IsPassed course × (g.E.Endpoint.is_on c.args.card.now ≡ false))) c.count.new.self.kept c.args.self.now.kept c.args.tpdu.now (Some Incoming) c.count.ensures.kept (subst (λ way. Some way ≡ transfer_in c.args.tpdu.now) c.in-Some-Incoming.field-0-is c.in-Some-Incoming.ensures.value)
    (passed_off c.pass_and_keep.result (g.E.Endpoint.is_on c.args.card.now) c.pass_and_keep.ensures.off)
