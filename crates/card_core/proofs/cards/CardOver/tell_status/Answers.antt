-- STATUS itself meets no fault: where it is done the applets were told, and the two are one command.
use Rattle.std.proofs.Common.{◌≡◌, OnErr, refl, subst}
use Rattle.std.proofs.lemmas.Bool.{eq-eqb, false≢true, ne_eqb}
use Rattle.card_state.specs.declared.entries.Loaded.{Loaded}
use Rattle.uicc_types.specs.declared.answers.TheConstants.StatusWord.{DONE}
use Rattle.card_core.specs.Cards.{parts_of}
use Rattle.card_core.proofs.TellStatusLemmas.{status_told_acts, status_other_acts}
use Rattle.card_core.proofs.cards.CardOver.tell_status.Goals as goal

pub returns-in-Ok-clause-acts : goal.returns-in-Ok-clause-acts
returns-in-Ok-clause-acts g c =
    status_told_acts c.args.apdu.now tt c.tell_applets.result (parts_of g.S.Store g.B.Applet c.args.self.now) (parts_of g.S.Store g.B.Applet c.carry_out_on_files.new.self) (parts_of g.S.Store g.B.Applet c.tell_applets.new.self)
    c.carry_out_on_files.new.out c.tell_applets.new.out c.in-Ok.ensures.acts (c.in-Ok.ensures.still refl) c.tell_applets.ensures.acts (eq-eqb c.carry_out_on_files.new.out.status.0 DONE.0 c.if-out.true) c.tell_applets.ensures.out

pub returns-in-Ok-clause-table : goal.returns-in-Ok-clause-table
returns-in-Ok-clause-table g c = subst (λ (table : Loaded). OnErr c.tell_applets.result ((parts_of g.S.Store g.B.Applet c.tell_applets.new.self).table ≡ table)) (c.carry_out_on_files.ensures.still refl).table c.tell_applets.ensures.table

pub returns-in-Ok-2-clause-acts : goal.returns-in-Ok-2-clause-acts
returns-in-Ok-2-clause-acts g c =
    status_other_acts c.args.apdu.now tt (parts_of g.S.Store g.B.Applet c.args.self.now) (parts_of g.S.Store g.B.Applet c.carry_out_on_files.new.self) c.carry_out_on_files.new.out c.in-Ok.ensures.acts
    (ne_eqb c.carry_out_on_files.new.out.status.0 DONE.0 c.if-out.false)

pub returns-in-Err-clause-acts : goal.returns-in-Err-clause-acts
returns-in-Err-clause-acts g c = absurd (false≢true (c.in-Err.ensures.still refl).done)

pub returns-in-Err-clause-table : goal.returns-in-Err-clause-table
returns-in-Err-clause-table g c = c.in-Err.ensures.table
