use Rattle.std.proofs.Common.{ap, ◌∙◌}
use Rattle.terminal_side.specs.Kept.{hearing_answer}
use Rattle.terminal_side.proofs.PhoneLemmas.{kept_answer}
use Rattle.terminal_side.proofs.phone.Phone.take_answer.Goals as goal

pub returns : goal.returns
returns c = λ h is. c.go_on.ensures ∙ ap (hearing_answer c.args.answer.now) is ∙ kept_answer c.args.answer.now h
