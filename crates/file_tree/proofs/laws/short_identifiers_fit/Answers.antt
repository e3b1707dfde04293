use Rattle.std.proofs.Common.{subst}
use Rattle.card_state.specs.States.{state_of}
use Rattle.file_tree.specs.Tables.{HaveShortIds}
use Rattle.file_tree.proofs.IsCardTableLemmas.{table_sound}
use Rattle.file_tree.proofs.MayBeSelectedLemmas.{all_fit}
use Rattle.file_tree.proofs.laws.short_identifiers_fit.Goals as goal

pub returns : goal.returns
returns c =
    let sound = table_sound c.args.loaded.now c.requires in
    subst HaveShortIds (c.files_are_found.ensures.told c.args.loaded.now c.requires.content sound) (all_fit (state_of c.args.loaded.now c.requires.content) sound)
