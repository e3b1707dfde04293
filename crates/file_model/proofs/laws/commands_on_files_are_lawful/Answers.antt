use Rattle.file_model.specs.declared.commands.ContentsCommand.TheVariants.{ReadBinary, UpdateBinary, ReadRecord, UpdateRecord, SearchRecord, Increase, Deactivate, Activate}
use Rattle.file_model.specs.declared.commands.FileCommand.TheVariants.{Select, Status, Contents}
use Rattle.file_model.specs.Commands.{contents_outcome, file_outcome}
use Rattle.file_model.proofs.SelectingLemmas.{file_selected_so, status_told_so}
use Rattle.file_model.proofs.BinariesLemmas.{binary_read_so, binary_updated_so}
use Rattle.file_model.proofs.RecordsLemmas.{record_read_so, record_updated_so, searched_so, increased_so}
use Rattle.file_model.proofs.LifeCyclesLemmas.{file_deactivated_so, file_activated_so}
use Rattle.file_model.proofs.PassesChangesLemmas.{files_pass}
use Rattle.file_model.proofs.laws.commands_on_files_are_lawful.Goals as goal

pub returns-clause-lawful : goal.returns-clause-lawful
unfolding file_outcome contents_outcome
returns-clause-lawful c Select = file_selected_so
returns-clause-lawful c Status = status_told_so
returns-clause-lawful c (Contents ReadBinary) = binary_read_so
returns-clause-lawful c (Contents UpdateBinary) = binary_updated_so
returns-clause-lawful c (Contents ReadRecord) = record_read_so
returns-clause-lawful c (Contents UpdateRecord) = record_updated_so
returns-clause-lawful c (Contents SearchRecord) = searched_so
returns-clause-lawful c (Contents Increase) = increased_so
returns-clause-lawful c (Contents Deactivate) = file_deactivated_so
returns-clause-lawful c (Contents Activate) = file_activated_so

pub returns-clause-passes : goal.returns-clause-passes
returns-clause-passes c = files_pass
