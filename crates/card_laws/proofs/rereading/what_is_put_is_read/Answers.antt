use Rattle.card_laws.proofs.ReadingLawsLemmas.{bytes_are_read, records_are_read}
use Rattle.card_laws.proofs.rereading.what_is_put_is_read.Goals as goal

pub returns-clause-bytes : goal.returns-clause-bytes
returns-clause-bytes c = bytes_are_read

pub returns-clause-records : goal.returns-clause-records
returns-clause-records c = records_are_read
