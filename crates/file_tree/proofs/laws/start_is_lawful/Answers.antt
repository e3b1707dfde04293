use Rattle.std.proofs.Common.{List, subst}
use Rattle.card_state.specs.States.{state_of}
use Rattle.file_model.specs.declared.descriptors.Descriptor.{Descriptor}
use Rattle.file_model.specs.declared.selections.TheConstants.Selection.{AT_START}
use Rattle.file_model.specs.Selections.{IsSelection}
use Rattle.file_model.proofs.AtStartLemmas.{start_is_selected}
use Rattle.file_tree.proofs.IsCardTableLemmas.{table_sound}
use Rattle.file_tree.proofs.laws.start_is_lawful.Goals as goal

pub returns : goal.returns
returns c =
    let sound = table_sound c.args.loaded.now c.requires in
    subst (λ (files : List Descriptor). IsSelection files AT_START) (c.files_are_found.ensures.told c.args.loaded.now c.requires.content sound) (start_is_selected (state_of c.args.loaded.now c.requires.content) sound)
