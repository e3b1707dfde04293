use Rattle.file_model.proofs.TemplatesLemmas.{asked_found, asked_only}
use Rattle.file_model.proofs.tree_laws.templates_are_read.Goals as goal

pub returns-clause-alone : goal.returns-clause-alone
returns-clause-alone c = asked_found

pub returns-clause-all : goal.returns-clause-all
returns-clause-all c = asked_only
