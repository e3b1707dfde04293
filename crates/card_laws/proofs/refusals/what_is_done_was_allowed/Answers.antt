use Rattle.card_laws.proofs.RefusalLawsLemmas.{activate_by_rule, deactivate_by_rule, increase_by_leave, read_binary_by_leave, read_record_by_leave, search_record_by_leave, update_binary_by_leave, update_record_by_leave}
use Rattle.card_laws.proofs.refusals.what_is_done_was_allowed.Goals as goal

pub returns-clause-read_binary : goal.returns-clause-read_binary
returns-clause-read_binary c = read_binary_by_leave

pub returns-clause-update_binary : goal.returns-clause-update_binary
returns-clause-update_binary c = update_binary_by_leave

pub returns-clause-read_record : goal.returns-clause-read_record
returns-clause-read_record c = read_record_by_leave

pub returns-clause-update_record : goal.returns-clause-update_record
returns-clause-update_record c = update_record_by_leave

pub returns-clause-search_record : goal.returns-clause-search_record
returns-clause-search_record c = search_record_by_leave

pub returns-clause-increase : goal.returns-clause-increase
returns-clause-increase c = increase_by_leave

pub returns-clause-deactivate : goal.returns-clause-deactivate
returns-clause-deactivate c = deactivate_by_rule

pub returns-clause-activate : goal.returns-clause-activate
returns-clause-activate c = activate_by_rule
