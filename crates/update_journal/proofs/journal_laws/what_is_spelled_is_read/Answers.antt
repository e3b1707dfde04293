use Rattle.update_journal.proofs.JournalLawsLemmas.{entries_are_read, nothing_else_is_read}
use Rattle.update_journal.proofs.journal_laws.what_is_spelled_is_read.Goals as goal

pub returns-clause-entries : goal.returns-clause-entries
returns-clause-entries c = entries_are_read

pub returns-clause-nothing_else : goal.returns-clause-nothing_else
returns-clause-nothing_else c = nothing_else_is_read
