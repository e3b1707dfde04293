use Rattle.std.proofs.Common.{sym, subst}
use Rattle.file_model.specs.Files.{descriptors_of}
use Rattle.file_model.specs.Selections.{IsSelection}
use Rattle.binary_commands.proofs.SelectingLemmas.{selected_lawful}
use Rattle.binary_commands.proofs.selecting.answer_selected.Goals as goal

pub returns-clause-lawful : goal.returns-clause-lawful
returns-clause-lawful c =
    subst (IsSelection (descriptors_of c.args.loaded.now)) (sym c.selection_of.ensures)
    (selected_lawful (descriptors_of c.args.loaded.now) c.args.file.now c.files_may_be_selected.ensures c.requires.numbered)
