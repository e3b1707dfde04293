use Rattle.layout_laws.proofs.ReadsBytesLemmas.{bytes_read, record_read}
use Rattle.layout_laws.proofs.changes.files_are_read.Goals as goal

pub returns-clause-bytes : goal.returns-clause-bytes
returns-clause-bytes c = λ content number offset count node held card has holds fits. bytes_read content card number node has offset count held holds fits

pub returns-clause-record : goal.returns-clause-record
returns-clause-record c = λ content number index node held card has holds head low. record_read content card number node has index held holds head low
