-- The card started again is the one due, which is the old card after a reset: power_up moves no bytes, and only PowerLost ends it off.
use Rattle.std.proofs.Common.{ℕ, true, false, refl, sym, ◌∙◌, ap, subst, rules, true≢false}
use Rattle.uicc_types.specs.Counts.{Meter, Rose, raised}
use Rattle.card_core.specs.Cards.{parts_of, card_of}
use Rattle.card_core.proofs.RestartLemmas.{boxes_there, held_moved, on_same, due_moved, due_restarted, ready_with, read_from, good_restarted, not_lost, ok_not_lost}
use Rattle.card_core.proofs.cards.CardOver.reset.Goals as goal

pub restart-requires-clause-boxes : goal.restart-requires-clause-boxes
restart-requires-clause-boxes g c = held_moved _ _ _ _ _ c.power_up.ensures.keeps.mark c.power_up.ensures.keeps.stable (boxes_there (parts_of g.S.Store g.B.Applet c.args.self.now) c.requires.ready.good)

pub returns-in-Ok-clause-restarted : goal.returns-in-Ok-clause-restarted
returns-in-Ok-clause-restarted g c =
    on_same (parts_of g.S.Store g.B.Applet c.restart.new.self) true ∙ c.restart.ensures.restarted
    ∙ due_moved (parts_of g.S.Store g.B.Applet c.args.self.now) _ c.power_up.ensures.keeps.mark c.power_up.ensures.keeps.stable refl refl ∙ due_restarted (parts_of g.S.Store g.B.Applet c.args.self.now) (λ rests. (c.requires.ready.running rests).stays)

pub returns-in-Ok-clause-ready : goal.returns-in-Ok-clause-ready
returns-in-Ok-clause-ready g c =
    let is = c.restart.ensures.restarted ∙ due_moved (parts_of g.S.Store g.B.Applet c.args.self.now) _ c.power_up.ensures.keeps.mark c.power_up.ensures.keeps.stable refl refl ∙ due_restarted (parts_of g.S.Store g.B.Applet c.args.self.now) (λ rests. (c.requires.ready.running rests).stays) in
    ready_with (parts_of g.S.Store g.B.Applet c.restart.new.self) true c.restart.ensures.rests.set
    (λ on. c.in-Ok.ensures.rests.cause.power_kept (ok_not_lost c.in-Ok.field-0) ∙ ap (λ (meter : Meter). meter.powered) c.power_up.ensures.power)
    (λ rests. c.in-Ok.ensures.rests.running)
    (good_restarted c.restarts_are_good.ensures (card_of (parts_of g.S.Store g.B.Applet c.args.self.now)) (card_of (parts_of g.S.Store g.B.Applet c.restart.new.self)) is c.requires.ready.good)

pub returns-in-Err-Failed-clause-restarted : goal.returns-in-Err-Failed-clause-restarted
returns-in-Err-Failed-clause-restarted g c = c.restart.ensures.restarted ∙ due_moved (parts_of g.S.Store g.B.Applet c.args.self.now) _ c.power_up.ensures.keeps.mark c.power_up.ensures.keeps.stable refl refl ∙ due_restarted (parts_of g.S.Store g.B.Applet c.args.self.now) (λ rests. (c.requires.ready.running rests).stays)

pub returns-in-Err-Failed-clause-ready : goal.returns-in-Err-Failed-clause-ready
returns-in-Err-Failed-clause-ready g c =
    let is = c.restart.ensures.restarted ∙ due_moved (parts_of g.S.Store g.B.Applet c.args.self.now) _ c.power_up.ensures.keeps.mark c.power_up.ensures.keeps.stable refl refl ∙ due_restarted (parts_of g.S.Store g.B.Applet c.args.self.now) (λ rests. (c.requires.ready.running rests).stays) in
    ready_with (parts_of g.S.Store g.B.Applet c.restart.new.self) c.restart.new.self.is_on c.restart.ensures.rests.set
    (λ on. c.in-Err-Failed.ensures.rests.cause.power_kept (not_lost c.in-Err-Failed.field-0 _ refl c.in-Err-Failed.field-0-is) ∙ ap (λ (meter : Meter). meter.powered) c.power_up.ensures.power)
    (λ rests. absurd (true≢false (sym c.in-Err-Failed.ensures.due ∙ rests)))
    (good_restarted c.restarts_are_good.ensures (card_of (parts_of g.S.Store g.B.Applet c.args.self.now)) (card_of (parts_of g.S.Store g.B.Applet c.restart.new.self)) is c.requires.ready.good)

pub returns-in-Err-PowerLost-clause-restarted : goal.returns-in-Err-PowerLost-clause-restarted
returns-in-Err-PowerLost-clause-restarted g c =
    on_same (parts_of g.S.Store g.B.Applet c.restart.new.self) false ∙ c.restart.ensures.restarted
    ∙ due_moved (parts_of g.S.Store g.B.Applet c.args.self.now) _ c.power_up.ensures.keeps.mark c.power_up.ensures.keeps.stable refl refl ∙ due_restarted (parts_of g.S.Store g.B.Applet c.args.self.now) (λ rests. (c.requires.ready.running rests).stays)

pub returns-in-Err-PowerLost-clause-ready : goal.returns-in-Err-PowerLost-clause-ready
returns-in-Err-PowerLost-clause-ready g c =
    let is = c.restart.ensures.restarted ∙ due_moved (parts_of g.S.Store g.B.Applet c.args.self.now) _ c.power_up.ensures.keeps.mark c.power_up.ensures.keeps.stable refl refl ∙ due_restarted (parts_of g.S.Store g.B.Applet c.args.self.now) (λ rests. (c.requires.ready.running rests).stays) in
    ready_with (parts_of g.S.Store g.B.Applet c.restart.new.self) false c.restart.ensures.rests.set
    (λ on. absurd (true≢false (sym on)))
    (λ rests. absurd (true≢false (sym c.in-Err-PowerLost.ensures.due ∙ rests)))
    (good_restarted c.restarts_are_good.ensures (card_of (parts_of g.S.Store g.B.Applet c.args.self.now)) (card_of (parts_of g.S.Store g.B.Applet c.restart.new.self)) is c.requires.ready.good)

pub returns-in-Ok-clause-resets : goal.returns-in-Ok-clause-resets
returns-in-Ok-clause-resets g c = record {
  on = search rules;
  begins = record {
    read = read_from _ _ _ _ c.power_up.ensures.keeps.stable c.power_up.ensures.keeps.mark c.in-Ok.ensures.begins.read;
    channels = c.in-Ok.ensures.begins.channels;
    verified = c.in-Ok.ensures.begins.verified;
    session = c.in-Ok.ensures.begins.session;
    boxes = c.in-Ok.ensures.begins.boxes;
    leaving = c.in-Ok.ensures.begins.leaving;
    rests = c.in-Ok.ensures.begins.rests;
  };
  rests = search rules;
  due = search rules;
  table = search rules;
  failed = search rules;
  off = search rules;
}

pub returns-in-Ok-clause-starts : goal.returns-in-Ok-clause-starts
returns-in-Ok-clause-starts g c = record {
  recovered = c.restart.ensures.starts.recovered ∙ ap raised c.power_up.ensures.asked.recoveries;
  read = subst (λ (before : ℕ). Rose before (parts_of g.S.Store g.B.Applet c.restart.new.self).reads) c.power_up.ensures.asked.reads c.in-Ok.ensures.starts.read;
}

pub returns-in-Err-Failed-clause-starts : goal.returns-in-Err-Failed-clause-starts
returns-in-Err-Failed-clause-starts g c = record { recovered = c.restart.ensures.starts.recovered ∙ ap raised c.power_up.ensures.asked.recoveries; read = tt }

pub returns-in-Err-PowerLost-clause-starts : goal.returns-in-Err-PowerLost-clause-starts
returns-in-Err-PowerLost-clause-starts g c = record { recovered = c.restart.ensures.starts.recovered ∙ ap raised c.power_up.ensures.asked.recoveries; read = tt }
