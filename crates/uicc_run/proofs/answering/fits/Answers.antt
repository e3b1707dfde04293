-- Words have one store or none.
use Rattle.std.proofs.Common.{◌≡◌, refl, sym, ap, ◌∙◌, eqb-true, arith}
use Rattle.std.proofs.lemmas.Bool.Decides.{nat_tests}
use Rattle.uicc_run.specs.Stores.{size_of}
use Rattle.uicc_run.proofs.answering.fits.Goals as goal

pub returns-in-None : goal.returns-in-None
returns-in-None c = (λ holds asked is. absurd (c.in-None.ensures asked.devices (record { asked = asked; words_are = is; devices = refl })), λ fits. refl)

pub returns-in-Some : goal.returns-in-Some
returns-in-Some c = (
  λ holds asked is.
      let same = c.in-Some.ensures.only asked.devices (record { asked = asked; words_are = is; devices = refl }) in
      eqb-true c.args.size c.device_size.result holds ∙ c.device_size.ensures ∙ ap (λ d. size_of d.pages) (sym same),
  λ fits.
      let made = c.in-Some.ensures.so in
      let same : c.args.size ≡ c.device_size.result = fits made.asked made.words_are ∙ ap (λ d. size_of d.pages) (sym made.devices) ∙ sym c.device_size.ensures in
      grind (arith, nat_tests, same),
)
