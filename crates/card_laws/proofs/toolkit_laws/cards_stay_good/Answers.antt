use Rattle.card_laws.proofs.toolkit_laws.cards_stay_good.Goals as goal
use Rattle.card_laws.proofs.IsGoodLemmas.{answer_well, left_good}

pub returns-clause-answers : goal.returns-clause-answers
returns-clause-answers c = λ knows card bytes runs good are.
    answer_well c.installations_are_accepted.ensures c.installed_rows_are_sound.ensures c.steps_leave_good.ensures c.answers_are_lawful.ensures.commands (λ mind stimulus. (c.turns_are_lawful.ensures mind stimulus).same_kind) card good knows bytes runs are

pub returns-clause-faults : goal.returns-clause-faults
returns-clause-faults c = λ knows card left bytes runs good are is.
    left_good c.installations_are_accepted.ensures c.installed_rows_are_sound.ensures c.steps_leave_good.ensures c.answers_are_lawful.ensures.commands (λ mind stimulus. (c.turns_are_lawful.ensures mind stimulus).same_kind) card good knows bytes runs are left is
