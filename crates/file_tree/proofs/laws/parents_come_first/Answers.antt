use Rattle.std.proofs.Common.{subst}
use Rattle.card_state.specs.States.{state_of}
use Rattle.file_tree.specs.Tables.{HaveParentsFirst}
use Rattle.file_tree.proofs.IsCardTableLemmas.{table_sound}
use Rattle.file_tree.proofs.laws.parents_come_first.Goals as goal

pub returns : goal.returns
returns c =
    let sound = table_sound c.args.loaded.now c.requires in
    subst HaveParentsFirst (c.files_are_found.ensures.told c.args.loaded.now c.requires.content sound) (c.files_are_found.ensures.parents (state_of c.args.loaded.now c.requires.content) sound)
