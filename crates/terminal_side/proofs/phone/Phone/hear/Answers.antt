use Rattle.std.proofs.Common.{ap, ◌∙◌}
use Rattle.terminal_side.specs.Kept.{hearing}
use Rattle.terminal_side.proofs.PhoneLemmas.{kept_line}
use Rattle.terminal_side.proofs.phone.Phone.hear.Goals as goal

pub returns : goal.returns
returns c = λ h is. c.react.ensures ∙ ap (hearing c.args.line.now) is ∙ kept_line c.args.line.now h
