use Rattle.std.proofs.Common.{Ok, Err, refl, ap, ◌∙◌}
use Rattle.uicc_types.specs.declared.answers.StatusWord.{StatusWord}
use Rattle.store_form.specs.declared.store.StoreFault.{StoreFault}
use Rattle.file_model.specs.Files.{descriptors_of}
use Rattle.binary_commands.specs.Reads.{access_reads}
use Rattle.card_model.specs.Answers.{told_pending}
use Rattle.card_core.specs.Cards.{parts_of}
use Rattle.card_core.proofs.ReadsOnceLemmas.{told_on}
use Rattle.card_core.proofs.ToldPendingLemmas.{whole_acts, whole_answered}
use Rattle.card_core.proofs.cards.CardOver.carry_out.Goals as goal

pub returns-in-Ok-clause-acts : goal.returns-in-Ok-clause-acts
returns-in-Ok-clause-acts g c =
    whole_acts {X = Unit} (Ok tt) (parts_of g.S.Store g.B.Applet c.args.self.now) (parts_of g.S.Store g.B.Applet c.attempt.new.self) c.args.bytes.now c.attempt.new.out _
    (record { body = refl; status = c.told_pending-out.ensures.value ∙ ap (λ count. told_pending count c.attempt.new.out.status) c.unfetched.ensures }) c.in-Ok.ensures.acts

pub returns-in-Err-clause-acts : goal.returns-in-Err-clause-acts
returns-in-Err-clause-acts g c =
    whole_acts {X = Unit} (Err c.in-Err.fault) (parts_of g.S.Store g.B.Applet c.args.self.now) (parts_of g.S.Store g.B.Applet c.attempt.new.self) c.args.bytes.now c.attempt.new.out c.attempt.new.out tt c.in-Err.ensures.acts

pub returns-in-Ok-clause-answered : goal.returns-in-Ok-clause-answered
returns-in-Ok-clause-answered g c =
    whole_answered {X = Unit} (Ok tt) (parts_of g.S.Store g.B.Applet c.args.self.now) (parts_of g.S.Store g.B.Applet c.attempt.new.self) c.args.bytes.now _ c.requires.underway.rests (c.attempt.ensures.goes_on.others.is_due ∙ c.requires.underway.rests)
    (returns-in-Ok-clause-acts g c) (c.told_pending-out.ensures.usual c.in-Ok.ensures.usual) tt

pub returns-in-Err-clause-answered : goal.returns-in-Err-clause-answered
returns-in-Err-clause-answered g c =
    whole_answered {X = Unit} (Err c.in-Err.fault) (parts_of g.S.Store g.B.Applet c.args.self.now) (parts_of g.S.Store g.B.Applet c.attempt.new.self) c.args.bytes.now c.attempt.new.out c.requires.underway.rests
    (c.attempt.ensures.goes_on.others.is_due ∙ c.requires.underway.rests) (returns-in-Err-clause-acts g c) tt c.in-Err.ensures.empty

pub returns-in-Ok-clause-asks : goal.returns-in-Ok-clause-asks
returns-in-Ok-clause-asks g c = λ apdu read named file found.
    told_on {X = Unit} {E = StoreFault} (Ok tt) c.attempt.new.out _ (access_reads (descriptors_of c.args.self.now.loaded.value) file) (g.S.Store.reads c.args.self.now.store) (g.S.Store.reads c.attempt.new.self.store)
    (λ is. c.told_pending-out.ensures.denied (ap (λ (word : StatusWord). word.0) is)) (λ some. some) (c.in-Ok.ensures.asks apdu read named file found)
