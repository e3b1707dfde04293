use Rattle.std.proofs.Common.{ap, ◌∙◌}
use Rattle.terminal_side.specs.Kept.{starting}
use Rattle.terminal_side.proofs.PhoneLemmas.{kept_reset, kept_start}
use Rattle.terminal_side.proofs.phone.Phone.start.Goals as goal

pub returns-clause-first : goal.returns-clause-first
returns-clause-first c = λ is. c.begin.ensures ∙ ap starting is ∙ kept_start

pub returns-clause-again : goal.returns-clause-again
returns-clause-again c = λ h is. c.begin.ensures ∙ ap starting is ∙ kept_reset h
