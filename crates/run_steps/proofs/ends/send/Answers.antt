-- A card that answers had power, as one without answers NoPower; 6581 alone shows that the memory failed, and a cut that power was lost.
use Rattle.std.proofs.Common.{ap, refl, inl, ◌∙◌, rules, ◌==◌}
use Rattle.std.proofs.lemmas.Bool.{eqb-true, false≢true}
use Rattle.uicc_types.specs.declared.answers.StatusWord.{StatusWord}
use Rattle.uicc_types.specs.declared.answers.TheConstants.StatusWord.{MEMORY_PROBLEM}
use Rattle.card_core.specs.Cards.{parts_of}
use Rattle.run_steps.specs.Taking.{machine_of}
use Rattle.run_steps.proofs.SendsLemmas.{caused_as, on_or_off, sends_answer, sends_cut, sends_off}
use Rattle.run_steps.proofs.ends.send.Goals as goal

pub returns-in-Ok-clause-takes : goal.returns-in-Ok-clause-takes
returns-in-Ok-clause-takes g c = record {
  sends = λ old is.
      sends_answer (parts_of g.S.Store g.B.Applet c.args.card.now) (parts_of g.S.Store g.B.Applet c.transmit.new.self) c.args.apdu.now c.transmit.new.out old is
      (λ off. let none = c.transmit.ensures.tells.power.no_power.1 off in cc (none, c.in-Ok.is)) c.in-Ok.ensures.tells.power.on c.in-Ok.ensures.tells.faults.rests c.in-Ok.ensures.moves;
  counted = search rules;
  caused =
      caused_as _ _ c.transmit.ensures.keeps.cause (λ failed. record { answered = cc c.in-Ok.is; status = ap (λ (code : _). record { 0 = code }) (eqb-true c.transmit.new.out.status.0 _ failed) }) (λ (failure : _). ap (λ (status : StatusWord). status.0 == MEMORY_PROBLEM.0) failure.status) (λ cut. absurd (cc cut)) (λ lost. absurd (cc (lost, c.in-Ok.is)));
  replies = (
    on_or_off (parts_of g.S.Store g.B.Applet c.args.card.now).is_on (λ off. let none = c.transmit.ensures.tells.power.no_power.1 off in cc (none, c.in-Ok.is)),
    (λ failed. c.transmit.ensures.tells.faults.no_data (record { answered = cc c.in-Ok.is; status = ap (λ (code : _). record { 0 = code }) (eqb-true c.transmit.new.out.status.0 _ failed) })),
    c.in-Ok.ensures.tells.power.on,
  );
  kept = search rules;
}

pub returns-in-Err-PowerLost-clause-takes : goal.returns-in-Err-PowerLost-clause-takes
returns-in-Err-PowerLost-clause-takes g c = record {
  sends = λ old is.
      let moves = rw c.in-Err-PowerLost.field-0-is at c.in-Err-PowerLost.ensures.moves in
      sends_cut (parts_of g.S.Store g.B.Applet c.args.card.now) (parts_of g.S.Store g.B.Applet c.transmit.new.self) c.args.apdu.now old is
      (λ off. let none = c.transmit.ensures.tells.power.no_power.1 off in cc (none, c.in-Err-PowerLost.is, c.in-Err-PowerLost.field-0-is))
      (c.transmit.ensures.tells.power.off (cc (c.in-Err-PowerLost.is, c.in-Err-PowerLost.field-0-is))) moves;
  counted = search rules;
  caused = caused_as _ _ c.transmit.ensures.keeps.cause (λ failed. absurd (cc failed)) (λ failure. absurd (false≢true (rw c.in-Err-PowerLost.is at failure.answered))) (λ cut. cc (c.in-Err-PowerLost.is, c.in-Err-PowerLost.field-0-is)) (λ lost. refl);
  replies = (
    on_or_off (parts_of g.S.Store g.B.Applet c.args.card.now).is_on (λ off. let none = c.transmit.ensures.tells.power.no_power.1 off in cc (none, c.in-Err-PowerLost.is, c.in-Err-PowerLost.field-0-is)),
    c.transmit.ensures.tells.power.off (cc (c.in-Err-PowerLost.is, c.in-Err-PowerLost.field-0-is)),
  );
  kept = search rules;
}

pub returns-in-Err-NoPower-clause-takes : goal.returns-in-Err-NoPower-clause-takes
returns-in-Err-NoPower-clause-takes g c = record {
  sends = λ old is.
      sends_off (parts_of g.S.Store g.B.Applet c.args.card.now) (parts_of g.S.Store g.B.Applet c.transmit.new.self) c.args.apdu.now old is
      (c.transmit.ensures.tells.power.no_power.0 (cc (c.in-Err-NoPower.is, c.in-Err-NoPower.field-0-is)))
      (ap (λ card. machine_of (parts_of g.S.Store g.B.Applet card)) (c.transmit.ensures.performs.untouched (inl (c.transmit.ensures.tells.power.no_power.0 (cc (c.in-Err-NoPower.is, c.in-Err-NoPower.field-0-is))))));
  counted = search rules;
  caused = caused_as _ _ c.transmit.ensures.keeps.cause (λ failed. absurd (cc failed)) (λ failure. absurd (false≢true (rw c.in-Err-NoPower.is at failure.answered))) (λ cut. absurd (cc cut)) (λ lost. absurd (cc (lost, c.in-Err-NoPower.is, c.in-Err-NoPower.field-0-is)));
  replies =
      let off = c.transmit.ensures.tells.power.no_power.0 (cc (c.in-Err-NoPower.is, c.in-Err-NoPower.field-0-is)) in
      (off, ap (λ card. (parts_of g.S.Store g.B.Applet card).is_on) (c.transmit.ensures.performs.untouched (inl off)) ∙ off);
  kept = search rules;
}
