use Rattle.run_steps.proofs.LinkedLemmas.{changes_none}
use Rattle.run_steps.proofs.link_laws.link_changes_no_answer.Goals as goal

pub returns : goal.returns
returns c = changes_none c.answers_are_lawful.ensures.lawful c.answers_with_applets_are_lawful.ensures.lawful
