use Rattle.std.proofs.Common.{ap, ◌∙◌}
use Rattle.handset_model.specs.Legal.{item_of}
use Rattle.terminal_side.specs.Kept.{Kept, doing}
use Rattle.terminal_side.proofs.PhoneLemmas.{asked_kept, kept_next}
use Rattle.terminal_side.proofs.phone.Phone.next_into.Goals as goal

pub returns-clause-item : goal.returns-clause-item
returns-clause-item c = λ h is. c.step.ensures.item ∙ ap (λ (old : Kept). item_of old.asked) is ∙ asked_kept h

pub returns-clause-after : goal.returns-clause-after
returns-clause-after c = λ h is. c.step.ensures.after ∙ ap (λ (old : Kept). doing old.asked old.known) is ∙ kept_next h
