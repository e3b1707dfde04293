use Rattle.card_laws.proofs.CardRefusalsLemmas.{conditions_refuse, refuses_in_order}
use Rattle.card_laws.proofs.refusals.cards_refuse_in_order.Goals as goal

pub returns-clause-order : goal.returns-clause-order
returns-clause-order c = refuses_in_order c.commands_on_files_are_lawful.ensures.lawful c.commands_on_trees_are_lawful.ensures.lawful c.cards_stay_good.ensures.answers

pub returns-clause-keeps : goal.returns-clause-keeps
returns-clause-keeps c = conditions_refuse c.commands_on_files_are_lawful.ensures.lawful c.cards_stay_good.ensures.answers (returns-clause-order c) c.answers_with_applets_are_lawful.ensures.refused
