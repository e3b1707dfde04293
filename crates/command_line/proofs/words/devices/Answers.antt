use Rattle.std.proofs.Common.{ap, ◌∙◌, refl}
use Rattle.command_line.specs.declared.requests.Request.{Request}
use Rattle.command_line.proofs.words.devices.Goals as goal

pub returns-in-Some : goal.returns-in-Some
returns-in-Some c = record {
  so = record { asked = c.in-Some.asked; words_are = c.in-Some.ensures.so; devices = refl };
  only = λ found made. made.devices ∙ ap (λ (asked : Request). asked.devices) (c.in-Some.ensures.only made.asked made.words_are);
}

pub returns-in-None : goal.returns-in-None
returns-in-None c = λ found made. c.in-None.ensures made.asked made.words_are
