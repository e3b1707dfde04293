-- What holds of the command that was read is led to its bytes: Le cuts the data after Ok, a fault leaves none, bad form is refused.
use Rattle.std.proofs.Common.{◌≡◌, Err, Ok, refl, sym, ◌∙◌, ap, subst, unwrap_or}
use Rattle.std.proofs.lemmas.Option.{same_Some}
use Rattle.uicc_types.specs.declared.answers.TheConstants.StatusWord.{WRONG_LENGTH}
use Rattle.apdu_form.specs.Classes.{channel_of}
use Rattle.apdu_form.specs.Model.{Apdu, cut_to}
use Rattle.store_form.specs.declared.store.StoreFault.{StoreFault}
use Rattle.file_model.specs.Binaries.{binary_to_read}
use Rattle.file_model.specs.Channels.{selected_on}
use Rattle.file_model.specs.Files.{descriptors_of}
use Rattle.file_model.specs.declared.selections.TheConstants.Selection.{AT_START}
use Rattle.binary_commands.specs.Reads.{access_reads}
use Rattle.card_core.specs.Acting.{in_bytes}
use Rattle.card_core.specs.Cards.{parts_of}
use Rattle.card_core.proofs.ActsAsLemmas.{cut_acts, cut_nothing, refused_acts}
use Rattle.card_core.proofs.CommandNamedLemmas.{named_by, not_named}
use Rattle.card_core.proofs.ReadsOnceLemmas.{told_on}
use Rattle.card_core.proofs.cards.CardOver.attempt.Goals as goal

pub returns-in-Ok-take-clause-acts : goal.returns-in-Ok-take-clause-acts
returns-in-Ok-take-clause-acts g c =
    cut_acts {X = Unit} (Ok tt) (parts_of g.S.Store g.B.Applet c.args.self.now) (parts_of g.S.Store g.B.Applet c.take.new.self) c.args.bytes.now c.in-Ok.apdu c.in-Ok.ensures.value c.take.new.out c.cut.new.out
    (record { body = c.cut.ensures.body ∙ ap (λ (apdu : Apdu). cut_to apdu.expected c.take.new.out.body) c.apdu.view_is; status = c.cut.ensures.status }) c.in-Ok-take.ensures.acts

pub returns-in-Ok-take-clause-untouched : goal.returns-in-Ok-take-clause-untouched
returns-in-Ok-take-clause-untouched g c = λ status refused. c.take.ensures.untouched status (named_by c.args.self.now.channels c.args.bytes.now c.in-Ok.apdu c.in-Ok.ensures.value ∙ refused)

pub returns-in-Err-take-clause-acts : goal.returns-in-Err-take-clause-acts
returns-in-Err-take-clause-acts g c =
    cut_acts {X = Unit} (Err c.in-Err-take.fault) (parts_of g.S.Store g.B.Applet c.args.self.now) (parts_of g.S.Store g.B.Applet c.take.new.self) c.args.bytes.now c.in-Ok.apdu c.in-Ok.ensures.value c.take.new.out c.take.new.out tt c.in-Err-take.ensures.acts

pub returns-in-Err-take-clause-untouched : goal.returns-in-Err-take-clause-untouched
returns-in-Err-take-clause-untouched g c = λ status refused. c.take.ensures.untouched status (named_by c.args.self.now.channels c.args.bytes.now c.in-Ok.apdu c.in-Ok.ensures.value ∙ refused)

pub returns-in-Err-clause-acts : goal.returns-in-Err-clause-acts
returns-in-Err-clause-acts g c =
    refused_acts tt (parts_of g.S.Store g.B.Applet c.args.self.now) _ (in_bytes (parts_of g.S.Store g.B.Applet c.args.self.now) c.args.bytes.now) WRONG_LENGTH (sym (not_named c.args.self.now.channels c.args.bytes.now c.in-Err.ensures.value)) c.requires.empty refl

pub returns-in-Ok-take-clause-asks : goal.returns-in-Ok-take-clause-asks
returns-in-Ok-take-clause-asks g c = λ apdu read named file found.
    let same : c.in-Ok.apdu ≡ apdu = same_Some c.in-Ok.apdu apdu (c.in-Ok.ensures.value ∙ read) in
    let files = descriptors_of c.args.self.now.loaded.value in
    told_on {X = Unit} {E = StoreFault} (Ok tt) c.take.new.out c.cut.new.out (access_reads files file) (g.S.Store.reads c.args.self.now.store) (g.S.Store.reads c.take.new.self.store) (λ is. sym c.cut.ensures.status ∙ is) (λ some none. some (c.cut.ensures.body ∙ ap (λ (each : Apdu). cut_to each.expected c.take.new.out.body) c.apdu.view_is ∙ ap (cut_to c.in-Ok.apdu.expected) none ∙ cut_nothing c.in-Ok.apdu.expected))
    (c.in-Ok-take.ensures.asks (named_by c.args.self.now.channels c.args.bytes.now c.in-Ok.apdu c.in-Ok.ensures.value ∙ named) file
    (subst (λ (each : Apdu). binary_to_read files (unwrap_or (selected_on c.args.self.now.channels (channel_of each.class)) AT_START) each ≡ Ok file) (sym same) found))

pub returns-in-Err-take-clause-asks : goal.returns-in-Err-take-clause-asks
returns-in-Err-take-clause-asks g c = λ apdu read named file found.
    let same : c.in-Ok.apdu ≡ apdu = same_Some c.in-Ok.apdu apdu (c.in-Ok.ensures.value ∙ read) in
    let files = descriptors_of c.args.self.now.loaded.value in
    c.in-Err-take.ensures.asks (named_by c.args.self.now.channels c.args.bytes.now c.in-Ok.apdu c.in-Ok.ensures.value ∙ named) file
    (subst (λ (each : Apdu). binary_to_read files (unwrap_or (selected_on c.args.self.now.channels (channel_of each.class)) AT_START) each ≡ Ok file) (sym same) found)
