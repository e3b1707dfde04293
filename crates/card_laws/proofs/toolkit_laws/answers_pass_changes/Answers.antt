use Rattle.card_laws.proofs.AnswersPassChangesLemmas.{answer_passes}
use Rattle.card_laws.proofs.toolkit_laws.answers_pass_changes.Goals as goal

pub returns : goal.returns
returns c = λ knows card bytes runs good are.
    answer_passes c.installations_are_accepted.ensures c.installed_rows_are_sound.ensures c.steps_leave_good.ensures c.answers_are_lawful.ensures.commands c.commands_on_files_are_lawful.ensures.passes c.pin_commands_are_lawful.ensures.passes c.commands_on_trees_are_lawful.ensures.passes
    card good knows bytes runs are
