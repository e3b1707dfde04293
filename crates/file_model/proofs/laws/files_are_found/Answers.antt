use Rattle.file_model.proofs.TablesTellFilesLemmas.{tables_tell_files}
use Rattle.file_model.proofs.NumbersAreEntriesLemmas.{finds_among_entries, numbers_are_entries}
use Rattle.file_model.proofs.FindsNearestLemmas.{parents_come_first, finds_in_five_searches, finds_nearest}
use Rattle.file_model.proofs.laws.files_are_found.Goals as goal

pub returns-clause-told : goal.returns-clause-told
returns-clause-told c = tables_tell_files

pub returns-clause-parents : goal.returns-clause-parents
returns-clause-parents c = parents_come_first

pub returns-clause-identifier : goal.returns-clause-identifier
returns-clause-identifier c = finds_in_five_searches

pub returns-clause-nearest : goal.returns-clause-nearest
returns-clause-nearest c = finds_nearest

pub returns-clause-entries : goal.returns-clause-entries
returns-clause-entries c = finds_among_entries

pub returns-clause-number : goal.returns-clause-number
returns-clause-number c = numbers_are_entries
