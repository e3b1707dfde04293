use Rattle.card_laws.proofs.IsLawfulWithAppletsLemmas.{answer_lawful, refusals_keep}
use Rattle.card_laws.proofs.toolkit_laws.answers_with_applets_are_lawful.Goals as goal

pub returns-clause-lawful : goal.returns-clause-lawful
returns-clause-lawful c = λ knows card bytes runs good are.
    answer_lawful c.answers_are_lawful.ensures.commands card good knows bytes runs are (c.cards_stay_good.ensures.answers knows card bytes runs good are)

pub returns-clause-refused : goal.returns-clause-refused
returns-clause-refused c = refusals_keep c.answers_are_lawful.ensures.refused (returns-clause-lawful c)
