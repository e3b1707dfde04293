use Rattle.card_laws.proofs.TellsWhatWaitsLemmas.{answer_tells}
use Rattle.card_laws.proofs.stretches.answers_tell_what_waits.Goals as goal

pub returns : goal.returns
returns c = λ knows card bytes runs good are. answer_tells c.commands_on_files_are_lawful.ensures.lawful c.pin_commands_are_lawful.ensures.lawful c.commands_on_trees_are_lawful.ensures.lawful knows card bytes runs good are
