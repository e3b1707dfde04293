use Rattle.card_laws.proofs.RefusalLawsLemmas.{create_by_adm, delete_by_adm, resize_by_adm}
use Rattle.card_laws.proofs.refusals.files_are_made_by_leave.Goals as goal

pub returns-clause-create : goal.returns-clause-create
returns-clause-create c = create_by_adm

pub returns-clause-delete : goal.returns-clause-delete
returns-clause-delete c = delete_by_adm

pub returns-clause-resize : goal.returns-clause-resize
returns-clause-resize c = resize_by_adm
