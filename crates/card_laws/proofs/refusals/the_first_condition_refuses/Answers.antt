use Rattle.card_laws.proofs.RefusalLawsLemmas.{increase_refused, read_binary_refused, read_record_refused, search_record_refused, update_binary_refused, update_record_refused}
use Rattle.card_laws.proofs.refusals.the_first_condition_refuses.Goals as goal

pub returns-clause-read_binary : goal.returns-clause-read_binary
returns-clause-read_binary c = read_binary_refused

pub returns-clause-update_binary : goal.returns-clause-update_binary
returns-clause-update_binary c = update_binary_refused

pub returns-clause-read_record : goal.returns-clause-read_record
returns-clause-read_record c = read_record_refused

pub returns-clause-update_record : goal.returns-clause-update_record
returns-clause-update_record c = update_record_refused

pub returns-clause-search_record : goal.returns-clause-search_record
returns-clause-search_record c = search_record_refused

pub returns-clause-increase : goal.returns-clause-increase
returns-clause-increase c = increase_refused
