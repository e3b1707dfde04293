-- What was due is done first and leaves the same card: a fault in that leaves what the command may leave, and else it meets that card.
use Rattle.std.proofs.Common.{ℕ, Option, sym, ◌∙◌, ap, subst, rules, IfSome, IsSomeAnd, is_some}
use Rattle.std.proofs.lemmas.Bool.{false≢true}
use Rattle.card_state.specs.Standing.{standing}
use Rattle.card_model.specs.States.{CardState, IsGood}
use Rattle.card_model.specs.Answers.{answer, passed}
use Rattle.card_model.specs.Runs.{IsLeft}
use Rattle.card_core.specs.Acting.{in_whole, ActsAs}
use Rattle.card_core.specs.AnyStore.{command_named}
use Rattle.card_core.specs.BinaryReads.{ReadsBinaryOnce}
use Rattle.card_core.specs.Cards.{parts_of, card_of, card_due}
use Rattle.card_core.specs.Writing.{StopsWriting}
use Rattle.card_core.proofs.CardOfLemmas.{card_told, due_told}
use Rattle.card_core.proofs.RestartLemmas.{due_is}
use Rattle.card_core.proofs.MovesItsOwnLemmas.{acts_anew}
use Rattle.card_core.proofs.IsGoodLemmas.{comes_from, good_comes, on_ok_of, on_err_of, left_restarted}
use Rattle.card_core.proofs.CommitsStatesLemmas.{counts_from, writes_due, if_any, stops_unmoved}
use Rattle.card_core.proofs.WritingLemmas.{still_cut}
use Rattle.card_core.proofs.cards.CardOver.perform.Goals as goal

pub returns-in-Ok-clause-answered : goal.returns-in-Ok-clause-answered
returns-in-Ok-clause-answered g c = record {
  comes =
      comes_from c.carry_out.result (parts_of g.S.Store g.B.Applet c.args.self.now) (parts_of g.S.Store g.B.Applet c.catch_up.new.self) (parts_of g.S.Store g.B.Applet c.carry_out.new.self)
      c.args.apdu.now c.carry_out.new.out c.catch_up.ensures.same c.carry_out.ensures.answered.comes;
  counts =
      counts_from c.carry_out.result (parts_of g.S.Store g.B.Applet c.args.self.now) (parts_of g.S.Store g.B.Applet c.catch_up.new.self) (parts_of g.S.Store g.B.Applet c.carry_out.new.self) (λ card. (answer card c.args.apdu.now).commits)
      c.catch_up.ensures.same c.catch_up.ensures.bytes.commits c.carry_out.ensures.answered.counts;
  writes =
      writes_due c.carry_out.result (parts_of g.S.Store g.B.Applet c.args.self.now) (parts_of g.S.Store g.B.Applet c.catch_up.new.self) (parts_of g.S.Store g.B.Applet c.carry_out.new.self) (λ card. (answer card c.args.apdu.now).changes)
      c.catch_up.ensures.same c.catch_up.ensures.bytes.commits c.catch_up.ensures.bytes.told c.carry_out.ensures.answered.writes;
  usual = search rules;
  empty = search rules;
}

pub returns-in-Ok-clause-good : goal.returns-in-Ok-clause-good
returns-in-Ok-clause-good g c = record {
  good =
      on_ok_of c.carry_out.result _ _
      (good_comes c.cards_stay_good.ensures.answers c.cards_stay_good.ensures.faults c.carry_out.result _ (card_of (parts_of g.S.Store g.B.Applet c.carry_out.new.self)) (card_due (parts_of g.S.Store g.B.Applet c.carry_out.new.self)) c.args.apdu.now c.carry_out.new.out c.are_bytes.ensures
      (card_told (parts_of g.S.Store g.B.Applet c.carry_out.new.self) c.carry_out.ensures.goes_on.set.card ∙ c.carry_out.ensures.goes_on.others.told ∙ ap is_some c.catch_up.ensures.bytes.told ∙ sym (card_told (parts_of g.S.Store g.B.Applet c.args.self.now) c.requires.ready.set.card))
      (due_told (parts_of g.S.Store g.B.Applet c.carry_out.new.self) c.carry_out.ensures.goes_on.set.card ∙ c.carry_out.ensures.goes_on.others.told ∙ ap is_some c.catch_up.ensures.bytes.told ∙ sym (card_told (parts_of g.S.Store g.B.Applet c.args.self.now) c.requires.ready.set.card))
      c.requires.ready.good ((returns-in-Ok-clause-answered g c).comes));
  left =
      on_err_of c.carry_out.result _ _
      (good_comes c.cards_stay_good.ensures.answers c.cards_stay_good.ensures.faults c.carry_out.result _ (card_of (parts_of g.S.Store g.B.Applet c.carry_out.new.self)) (card_due (parts_of g.S.Store g.B.Applet c.carry_out.new.self)) c.args.apdu.now c.carry_out.new.out c.are_bytes.ensures
      (card_told (parts_of g.S.Store g.B.Applet c.carry_out.new.self) c.carry_out.ensures.goes_on.set.card ∙ c.carry_out.ensures.goes_on.others.told ∙ ap is_some c.catch_up.ensures.bytes.told ∙ sym (card_told (parts_of g.S.Store g.B.Applet c.args.self.now) c.requires.ready.set.card))
      (due_told (parts_of g.S.Store g.B.Applet c.carry_out.new.self) c.carry_out.ensures.goes_on.set.card ∙ c.carry_out.ensures.goes_on.others.told ∙ ap is_some c.catch_up.ensures.bytes.told ∙ sym (card_told (parts_of g.S.Store g.B.Applet c.args.self.now) c.requires.ready.set.card))
      c.requires.ready.good ((returns-in-Ok-clause-answered g c).comes));
}

pub returns-in-Err-clause-answered : goal.returns-in-Err-clause-answered
returns-in-Err-clause-answered g c = record {
  comes =
      subst (λ (before : Option CardState). IfSome before (λ card. IsSomeAnd (card_due (parts_of g.S.Store g.B.Applet c.catch_up.new.self)) (IsLeft card (passed card c.args.apdu.now)))) c.catch_up.ensures.same
      (left_restarted (parts_of g.S.Store g.B.Applet c.catch_up.new.self) c.args.apdu.now c.in-Err.ensures.due);
  counts = record {
    commits = tt;
    stopped = stops_unmoved (parts_of g.S.Store g.B.Applet c.args.self.now) (parts_of g.S.Store g.B.Applet c.catch_up.new.self) (λ card. (answer card c.args.apdu.now).commits) c.catch_up.ensures.bytes.commits
        (ap (λ (mark : ℕ). standing mark (parts_of g.S.Store g.B.Applet c.catch_up.new.self).told) c.catch_up.ensures.rests.mark ∙ ap (standing (parts_of g.S.Store g.B.Applet c.args.self.now).store_mark) c.catch_up.ensures.bytes.told);
  };
  writes =
      if_any (card_of (parts_of g.S.Store g.B.Applet c.args.self.now)) (λ card. StopsWriting (answer card c.args.apdu.now).changes (parts_of g.S.Store g.B.Applet c.args.self.now) (parts_of g.S.Store g.B.Applet c.catch_up.new.self))
      (λ card. still_cut (parts_of g.S.Store g.B.Applet c.args.self.now) (parts_of g.S.Store g.B.Applet c.catch_up.new.self) (answer card c.args.apdu.now).changes c.catch_up.ensures.bytes.told c.catch_up.ensures.bytes.commits);
  usual = search rules;
  empty = search rules;
}

pub returns-in-Err-clause-good : goal.returns-in-Err-clause-good
returns-in-Err-clause-good g c = record {
  good = search rules;
  left = subst (λ (found : Option CardState). IfSome found IsGood) (sym c.catch_up.ensures.same ∙ due_is (parts_of g.S.Store g.B.Applet c.catch_up.new.self) c.in-Err.ensures.due) c.requires.ready.good;
}

pub returns-in-Ok-clause-anew : goal.returns-in-Ok-clause-anew
returns-in-Ok-clause-anew g c = λ due.
    acts_anew c.carry_out.result (parts_of g.S.Store g.B.Applet c.args.self.now) (parts_of g.S.Store g.B.Applet c.catch_up.new.self) (parts_of g.S.Store g.B.Applet c.carry_out.new.self)
    c.args.apdu.now c.carry_out.new.out (c.in-Ok.ensures.begins due) c.catch_up.ensures.rests.on c.carry_out.ensures.acts

pub returns-in-Ok-clause-untouched : goal.returns-in-Ok-clause-untouched
returns-in-Ok-clause-untouched g c = λ status rests refused.
    let same = (c.in-Ok.ensures.stays rests).1 in
    c.carry_out.ensures.untouched status (ap (λ card. command_named (parts_of g.S.Store g.B.Applet card).channels c.args.apdu.now) same ∙ refused) ∙ same

pub returns-in-Err-clause-untouched : goal.returns-in-Err-clause-untouched
returns-in-Err-clause-untouched g c = λ status rests refused. absurd (false≢true (c.in-Err.ensures.stays rests).0)

pub returns-in-Ok-clause-acts : goal.returns-in-Ok-clause-acts
returns-in-Ok-clause-acts g c = λ rests.
    subst (λ each. ActsAs c.carry_out.result (parts_of g.S.Store g.B.Applet each) (parts_of g.S.Store g.B.Applet c.carry_out.new.self) c.carry_out.new.out (in_whole (parts_of g.S.Store g.B.Applet each) c.args.apdu.now)) (c.in-Ok.ensures.stays rests).1 c.carry_out.ensures.acts

pub returns-in-Err-clause-acts : goal.returns-in-Err-clause-acts
returns-in-Err-clause-acts g c = λ rests. absurd (false≢true (c.in-Err.ensures.stays rests).0)

pub returns-in-Ok-clause-recovers : goal.returns-in-Ok-clause-recovers
returns-in-Ok-clause-recovers g c = record {
  due = λ is. c.carry_out.ensures.goes_on.others.recoveries ∙ c.catch_up.ensures.recovers.due is;
  rests = λ is. c.carry_out.ensures.goes_on.others.recoveries ∙ c.catch_up.ensures.recovers.rests is;
}

pub returns-in-Ok-clause-asks : goal.returns-in-Ok-clause-asks
returns-in-Ok-clause-asks g c = λ rests.
    subst (λ each. ReadsBinaryOnce c.carry_out.result (parts_of g.S.Store g.B.Applet each) (parts_of g.S.Store g.B.Applet c.carry_out.new.self) c.args.apdu.now c.carry_out.new.out) (c.in-Ok.ensures.stays rests).1 c.carry_out.ensures.asks

pub returns-in-Err-clause-asks : goal.returns-in-Err-clause-asks
returns-in-Err-clause-asks g c = λ rests. absurd (false≢true (c.in-Err.ensures.stays rests).0)
