use Rattle.card_laws.proofs.RefusalLawsLemmas.{activate_refused, create_refused, deactivate_refused, delete_refused, resize_refused, select_refused, status_refused}
use Rattle.card_laws.proofs.refusals.the_first_condition_refuses_on_files.Goals as goal

pub returns-clause-select : goal.returns-clause-select
returns-clause-select c = select_refused

pub returns-clause-status : goal.returns-clause-status
returns-clause-status c = status_refused

pub returns-clause-deactivate : goal.returns-clause-deactivate
returns-clause-deactivate c = deactivate_refused

pub returns-clause-activate : goal.returns-clause-activate
returns-clause-activate c = activate_refused

pub returns-clause-create : goal.returns-clause-create
returns-clause-create c = create_refused

pub returns-clause-delete : goal.returns-clause-delete
returns-clause-delete c = delete_refused

pub returns-clause-resize : goal.returns-clause-resize
returns-clause-resize c = resize_refused
