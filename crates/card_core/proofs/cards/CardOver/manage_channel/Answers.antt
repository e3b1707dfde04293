-- A channel opened, one closed and a refusal are each read from what manage says of the channels.
use Rattle.std.proofs.Common.{ℕ, Option, Some, None, refl, ◌∙◌, ap, Result, Ok, Err}
use Rattle.uicc_types.specs.declared.answers.StatusWord.{StatusWord}
use Rattle.card_core.specs.Cards.{parts_of}
use Rattle.card_core.specs.Commands.{channels_managed}
use Rattle.card_core.proofs.ChannelYieldsLemmas.{channels_act}
use Rattle.card_core.proofs.cards.CardOver.manage_channel.Goals as goal

pub returns-in-Ok-Some-clause-acts : goal.returns-in-Ok-Some-clause-acts
returns-in-Ok-Some-clause-acts g c =
    channels_act c.args.apdu.now (parts_of g.S.Store g.B.Applet c.args.self.now) c.manage.new.channels _ (Ok (Some c.in-Ok-Some.number))
    (c.manage.ensures.tried ∙ ap (λ (came : Result (Option ℕ) StatusWord). channels_managed came c.manage.new.channels) (c.in-Ok-Some.is ∙ ap Ok c.in-Ok-Some.field-0-is)) (c.from_slice-out.ensures.value, refl)

pub returns-in-Ok-None-clause-acts : goal.returns-in-Ok-None-clause-acts
returns-in-Ok-None-clause-acts g c =
    channels_act c.args.apdu.now (parts_of g.S.Store g.B.Applet c.args.self.now) c.manage.new.channels _ (Ok None)
    (c.manage.ensures.tried ∙ ap (λ (came : Result (Option ℕ) StatusWord). channels_managed came c.manage.new.channels) (c.in-Ok-None.is ∙ ap Ok c.in-Ok-None.field-0-is)) (c.requires.empty, refl)

pub returns-in-Err-clause-acts : goal.returns-in-Err-clause-acts
returns-in-Err-clause-acts g c =
    channels_act c.args.apdu.now (parts_of g.S.Store g.B.Applet c.args.self.now) c.manage.new.channels _ (Err c.in-Err.status)
    (c.manage.ensures.tried ∙ ap (λ (came : Result (Option ℕ) StatusWord). channels_managed came c.manage.new.channels) c.in-Err.is) (c.requires.empty, refl, c.in-Err.ensures.refused)
