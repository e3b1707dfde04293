use Rattle.card_laws.proofs.FcpAreObjectsLemmas.{fcp_are_not_cut, fcp_are_objects, select_answers_fcp, status_answers_fcp}
use Rattle.card_laws.proofs.FcpTellFilesLemmas.{fcp_tell_files}
use Rattle.card_laws.proofs.rereading.what_is_told_is_read.Goals as goal

pub returns-clause-objects : goal.returns-clause-objects
returns-clause-objects c = fcp_are_objects

pub returns-clause-select : goal.returns-clause-select
returns-clause-select c = select_answers_fcp

pub returns-clause-status : goal.returns-clause-status
returns-clause-status c = status_answers_fcp

pub returns-clause-whole : goal.returns-clause-whole
returns-clause-whole c = fcp_are_not_cut

pub returns-clause-files : goal.returns-clause-files
returns-clause-files c = fcp_tell_files
