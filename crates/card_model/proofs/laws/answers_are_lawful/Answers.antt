use Rattle.card_model.proofs.laws.answers_are_lawful.Goals as goal
use Rattle.card_model.proofs.IsLawfulAnswerLemmas.{answer_lawful, answer_usual, commands_lawful, of_lawful, refusal_keeps, left_is_good}
use Rattle.card_model.specs.Instructions.{has_toolkit}

pub returns-clause-lawful : goal.returns-clause-lawful
returns-clause-lawful c = λ knows card bytes good are.
    answer_lawful card good c.commands_on_files_are_lawful.ensures.lawful c.pin_commands_are_lawful.ensures.lawful c.commands_on_trees_are_lawful.ensures.lawful bytes knows are

pub returns-clause-commands : goal.returns-clause-commands
returns-clause-commands c = λ card bytes apdu instruction good command other.
    commands_lawful card good c.commands_on_files_are_lawful.ensures.lawful c.pin_commands_are_lawful.ensures.lawful c.commands_on_trees_are_lawful.ensures.lawful bytes apdu command instruction other

pub returns-clause-refused : goal.returns-clause-refused
returns-clause-refused c = λ knows card bytes status good are is.
    of_lawful (has_toolkit knows) _ _ (λ lawful. refusal_keeps knows card bytes status lawful is) (returns-clause-lawful c knows card bytes good are)

pub returns-clause-never_failed : goal.returns-clause-never_failed
returns-clause-never_failed c = λ knows card bytes good are.
    answer_usual card good c.commands_on_files_are_lawful.ensures.lawful c.pin_commands_are_lawful.ensures.lawful c.commands_on_trees_are_lawful.ensures.lawful bytes knows are

pub returns-clause-faults : goal.returns-clause-faults
returns-clause-faults c = λ knows card left bytes good are is.
    of_lawful (has_toolkit knows) _ _ (λ lawful. left_is_good knows card left bytes good lawful is) (returns-clause-lawful c knows card bytes good are)
