use Rattle.std.proofs.Common.{ap, ◌∙◌}
use Rattle.terminal_side.specs.Kept.{losing_power}
use Rattle.terminal_side.proofs.PhoneLemmas.{kept_cut, kept_off}
use Rattle.terminal_side.proofs.phone.Phone.lost_power.Goals as goal

pub returns-clause-lost : goal.returns-clause-lost
returns-clause-lost c = λ h is. c.fall_silent.ensures ∙ ap losing_power is ∙ kept_cut h

pub returns-clause-off : goal.returns-clause-off
returns-clause-off c = λ h is. c.fall_silent.ensures ∙ ap losing_power is ∙ kept_off h
